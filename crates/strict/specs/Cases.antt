-- Worked cases of strict reading: files, and what is said of each with tables at the limits. Assumes nothing.
use Rattle.std.specs.Prelude.{ℕ, ◌≡◌, refl, List, [], ◌∷◌}
use Rattle.refusal.specs.Each.{Each, each_nil, each-cons}
use Rattle.refusal.specs.Said.{Said, accepted, refused, follow, onward, offset, spot, relocated}
use Rattle.leb.specs.Groups.{u_n, grown, spent}
use Rattle.leb.specs.Reads.{told_at, narrowed, uleb_at, u32_at, byte_at, fixed_at, taken_at, counted_at, checked, name_at}
use Rattle.text.specs.Find.{same}
use Rattle.text.specs.Scan.{scan}
use Rattle.text.specs.Utf8.{up_to, seq_len, after, follow_in, covers, utf8_table, followers}
use Rattle.text.specs.Walk.{walk}
use Rattle.table.specs.Table.{capacity_of, range_of}
use Rattle.table.specs.Entries.{entries_from}
use Rattle.table.specs.Walking.{turn_of, walk_from}
use Rattle.wasm.specs.Entry.{func_at, table_at, memory_at, global_at, limits_at, desc_at, import_at, export_at, symbol_at}
use Rattle.wasm.specs.Rows.{imports_of, exports_of, symbols_of}
use Rattle.wasm.specs.Custom.{label_at, told_by, subsection_at, name_word, custom_at}
use Rattle.wasm.specs.Module.{no_tables, magic, header_at, contents_at, add_section, section_at, module_at}
use Rattle.conform.specs.Beyond.{file}
use Rattle.conform.specs.Sound.{limits}
use Rattle.strict.specs.Again.{fresh, with_number, with_entries, with_flag, number_marks, part_marks, limits_marks, table_marks}
use Rattle.strict.specs.Again.{global_marks, desc_marks, import_marks, export_marks, symbol_marks, entry_marks, run_from, run_marks}
use Rattle.strict.specs.Again.{told_marks, framed_marks, subsection_marks, custom_marks, list_marks, contents_marks, section_marks}
use Rattle.strict.specs.Again.{marks_at}
use Rattle.strict.specs.Rules.{ids_of, kinds_of, export_names, none_above, section_place, ordered_from, ordered, has, different, lowest_of}
use Rattle.strict.specs.Rules.{broken, held, strict_at, tested_at}

-- a file, and what a strict read says of it
record Case : Type 0 where
  bytes : List ℕ
  says : Said (Unit {0})

abbrev CaseHolds : Case → Type 0
CaseHolds c = tested_at c.bytes limits ≡ c.says

abbrev case : List ℕ → Said (Unit {0}) → Case
case b r = record { bytes = b; says = r }

-- `file`: the header with version 1, and these bytes
abbrev cases : List Case
cases =
    -- the header alone
    case (file []) (accepted tt)
    -- a size in six bytes
    ∷ case (file (0x01 ∷ 0x80 ∷ 0x80 ∷ 0x80 ∷ 0x80 ∷ 0x80 ∷ 0x00 ∷ [])) (refused 20 (spot 2))
    -- id 13
    ∷ case (file (0x0d ∷ 0x00 ∷ [])) (refused 20 (spot 3))
    -- types after functions
    ∷ case (file (0x03 ∷ 0x00 ∷ 0x01 ∷ 0x00 ∷ [])) (refused 20 (spot 4))
    -- data count after code
    ∷ case (file (0x0a ∷ 0x00 ∷ 0x0c ∷ 0x00 ∷ [])) (refused 20 (spot 4))
    -- an unused byte after no imports
    ∷ case (file (0x02 ∷ 0x02 ∷ 0x00 ∷ 0x00 ∷ [])) (refused 20 (spot 5))
    -- an export of kind 4
    ∷ case (file (0x07 ∷ 0x05 ∷ 0x01 ∷ 0x01 ∷ 0x65 ∷ 0x04 ∷ 0x00 ∷ [])) (refused 20 (spot 7))
    -- mutability 2
    ∷ case (file (0x02 ∷ 0x08 ∷ 0x01 ∷ 0x01 ∷ 0x6d ∷ 0x01 ∷ 0x66 ∷ 0x03 ∷ 0x7f ∷ 0x02 ∷ [])) (refused 20 (spot 8))
    -- element type 00: no rule asks
    ∷ case (file (0x02 ∷ 0x09 ∷ 0x01 ∷ 0x01 ∷ 0x6d ∷ 0x01 ∷ 0x66 ∷ 0x01 ∷ 0x00 ∷ 0x00 ∷ 0x00 ∷ [])) (accepted tt)
    -- rules 1 and 3
    ∷ case (0x00 ∷ 0x61 ∷ 0x73 ∷ 0x6d ∷ 0x02 ∷ 0x00 ∷ 0x00 ∷ 0x00 ∷ 0x0d ∷ 0x00 ∷ []) (refused 20 (spot 1))
    -- an unused byte in the first of two import sections: rules 4 and 5
    ∷ case (file (0x02 ∷ 0x02 ∷ 0x00 ∷ 0x00 ∷ 0x02 ∷ 0x01 ∷ 0x00 ∷ [])) (refused 20 (spot 4))
    -- a function's index in five bytes
    ∷ case (file (0x00 ∷ 0x0f ∷ 0x04 ∷ 0x6e ∷ 0x61 ∷ 0x6d ∷ 0x65 ∷ 0x01 ∷ 0x08 ∷ 0x01 ∷ 0x80 ∷ 0x80 ∷ 0x80 ∷ 0x80 ∷ 0x00 ∷ 0x01 ∷ 0x66
    ∷ [])) (accepted tt)
    -- subsection 2 is not read
    ∷ case (file (0x00 ∷ 0x0e ∷ 0x04 ∷ 0x6e ∷ 0x61 ∷ 0x6d ∷ 0x65 ∷ 0x02 ∷ 0x07 ∷ 0x80 ∷ 0x80 ∷ 0x80 ∷ 0x80 ∷ 0x80 ∷ 0x80 ∷ 0x00 ∷ []))
    (accepted tt)
    -- unused bytes in a name subsection: no rule asks
    ∷ case (file (0x00 ∷ 0x0b ∷ 0x04 ∷ 0x6e ∷ 0x61 ∷ 0x6d ∷ 0x65 ∷ 0x00 ∷ 0x04 ∷ 0x01 ∷ 0x6d ∷ 0x00 ∷ 0x00 ∷ [])) (accepted tt)
    -- a faulty name section: the plain refusal, from byte 0
    ∷ case (file (0x00 ∷ 0x06 ∷ 0x04 ∷ 0x6e ∷ 0x61 ∷ 0x6d ∷ 0x65 ∷ 0x00 ∷ [])) (refused 1 (offset 16))
    -- a second limit in six bytes
    ∷ case (file (0x02 ∷ 0x0e ∷ 0x01 ∷ 0x01 ∷ 0x6d ∷ 0x01 ∷ 0x66 ∷ 0x02 ∷ 0x01 ∷ 0x00 ∷ 0x80 ∷ 0x80 ∷ 0x80 ∷ 0x80 ∷ 0x80 ∷ 0x00 ∷ []))
    (refused 20 (spot 2))
    -- custom sections anywhere, any number
    ∷ case (file (0x00 ∷ 0x02 ∷ 0x01 ∷ 0x78 ∷ 0x01 ∷ 0x01 ∷ 0x00 ∷ 0x00 ∷ 0x02 ∷ 0x01 ∷ 0x78 ∷ 0x02 ∷ 0x01 ∷ 0x00 ∷ 0x00 ∷ 0x02 ∷ 0x01
    ∷ 0x78 ∷ [])) (accepted tt)
    -- the empty name twice
    ∷ case (file (0x07 ∷ 0x07 ∷ 0x02 ∷ 0x00 ∷ 0x00 ∷ 0x00 ∷ 0x00 ∷ 0x00 ∷ 0x00 ∷ [])) (refused 20 (spot 6))
    -- id 13 twice: rules 3 and 4
    ∷ case (file (0x0d ∷ 0x00 ∷ 0x0d ∷ 0x00 ∷ [])) (refused 20 (spot 3))
    -- a component
    ∷ case (0x00 ∷ 0x61 ∷ 0x73 ∷ 0x6d ∷ 0x0d ∷ 0x00 ∷ 0x01 ∷ 0x00 ∷ []) (refused 20 (spot 1))
    -- a module name's length in six bytes
    ∷ case (file (0x02 ∷ 0x0c ∷ 0x01 ∷ 0x81 ∷ 0x80 ∷ 0x80 ∷ 0x80 ∷ 0x80 ∷ 0x00 ∷ 0x6d ∷ 0x01 ∷ 0x66 ∷ 0x00 ∷ 0x00 ∷ []))
    (refused 20 (spot 2))
    -- a custom name's length in six bytes
    ∷ case (file (0x00 ∷ 0x07 ∷ 0x81 ∷ 0x80 ∷ 0x80 ∷ 0x80 ∷ 0x80 ∷ 0x00 ∷ 0x78 ∷ [])) (refused 20 (spot 2))
    -- all ids but 2 and 7, in order
    ∷ case (file (0x01 ∷ 0x00 ∷ 0x03 ∷ 0x00 ∷ 0x04 ∷ 0x00 ∷ 0x05 ∷ 0x00 ∷ 0x06 ∷ 0x00 ∷ 0x08 ∷ 0x00 ∷ 0x09 ∷ 0x00 ∷ 0x0c ∷ 0x00 ∷ 0x0a
    ∷ 0x00 ∷ 0x0b ∷ 0x00 ∷ [])) (accepted tt)
    ∷ []

pub cases-hold : Each CaseHolds cases
unfolding uleb_at u32_at told_at narrowed onward u_n grown spent byte_at fixed_at taken_at counted_at checked name_at module_at header_at
    relocated magic same walk_from walk turn_of section_at contents_at add_section capacity_of no_tables imports_of exports_of symbols_of entries_from
    import_at export_at symbol_at desc_at func_at table_at memory_at global_at limits_at label_at told_by subsection_at name_word custom_at up_to
    scan seq_len after followers follow_in covers utf8_table follow range_of
    fresh with_number with_entries with_flag number_marks part_marks limits_marks table_marks global_marks desc_marks import_marks export_marks
    symbol_marks entry_marks run_from run_marks told_marks framed_marks subsection_marks custom_marks list_marks contents_marks section_marks marks_at
    ids_of kinds_of export_names none_above section_place ordered_from ordered has different lowest_of broken held strict_at tested_at
cases-hold =
    (each-cons refl (each-cons refl (each-cons refl (each-cons refl (each-cons refl
    (each-cons refl (each-cons refl (each-cons refl (each-cons refl (each-cons refl
    (each-cons refl (each-cons refl (each-cons refl (each-cons refl (each-cons refl
    (each-cons refl (each-cons refl (each-cons refl (each-cons refl (each-cons refl
    (each-cons refl (each-cons refl (each-cons refl each_nil)))))))))))))))))))))))
