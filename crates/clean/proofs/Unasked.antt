-- The smallest files that are read strictly and are none of the specification's. Assumes nothing.
use Prim.Native.Nat.{ℕ, zero, suc, ◌≤◌, ◌<◌}
use native.Mathlib.Omega.{arith}
use mathlib.Core.Path.{◌≡◌, refl}
use mathlib.Core.Bool.{Bool, true, false}
use mathlib.Core.List.{List, [], ◌∷◌, ◌++◌}
use lib.ListN.{length, get_or}
use lib.Dec.{leb}
use borrow.Author.Tests.{leb-true}
use Rattle.refusal.specs.Pick.{both}
use Rattle.refusal.specs.Sizes.{file_limit}
use Rattle.refusal.specs.Said.{accepted, follow, onward, relocated}
use Rattle.leb.specs.Grammar.{last_u}
use Rattle.leb.specs.Groups.{u_n, grown, spent}
use Rattle.leb.specs.Reads.{told_at, narrowed, uleb_at, u32_at, byte_at, fixed_at, taken_at, counted_at, checked, name_at}
use Rattle.text.specs.Find.{same}
use Rattle.text.specs.Scan.{scan}
use Rattle.text.specs.Utf8.{up_to, seq_len, after, follow_in, covers, utf8_table, followers}
use Rattle.text.specs.Walk.{walk}
use Rattle.table.specs.Table.{capacity_of, range_of}
use Rattle.table.specs.Entries.{entries_from}
use Rattle.table.specs.Walking.{turn_of, walk_from}
use Rattle.refusal.specs.Each.{Each, each-cons}
use Rattle.wasm.specs.Entry.{func_at, table_at, memory_at, global_at, limits_at, desc_at, import_at, export_at, symbol_at}
use Rattle.wasm.specs.Rows.{imports_of, exports_of, symbols_of}
use Rattle.wasm.specs.Custom.{label_at, told_by, subsection_at, name_word, custom_at}
use Rattle.wasm.specs.Module.{no_tables, magic, header_at, contents_at, add_section, section_at, module_at}
use Rattle.wasm.specs.Shapes.{Limits, table_desc, global}
use Rattle.conform.specs.Grammar.{none, more, RefType, funcref, externref, ref_byte, ValType, i32, i64, f32, f64, v128, ref, val_byte}
use Rattle.conform.specs.Grammar.{FunctionOf, Rising, SectionOf, ModuleG, name_bytes}
use Rattle.conform.specs.Port.{Number, number, Named, named, counted, even, AnyDesc, imported, assoc, AnySub, framed, InARow, SectionSaid}
use Rattle.conform.specs.Port.{AnyContent, AnySection, AnyHeader, AnyModule}
use Rattle.conform.specs.Beyond.{file}
use Rattle.conform.specs.Claims.{Bytes}
use Rattle.conform.specs.Sound.{limits}
use Rattle.strict.specs.Again.{fresh, with_number, with_entries, with_flag, number_marks, part_marks, limits_marks, table_marks, global_marks}
use Rattle.strict.specs.Again.{desc_marks, import_marks, export_marks, symbol_marks, entry_marks, run_from, run_marks, told_marks, framed_marks}
use Rattle.strict.specs.Again.{subsection_marks, custom_marks, list_marks, contents_marks, section_marks, marks_at}
use Rattle.strict.specs.Rules.{ids_of, kinds_of, export_names, none_above, section_place, ordered_from, ordered, has, different, lowest_of}
use Rattle.strict.specs.Rules.{broken, held, strict_at}
use Rattle.clean.specs.Rules.{EveryRow, refbyte, valbyte, TypedDesc, TypedImport, TypedImports, TidySubs, TidyNames}
use Rattle.clean.specs.Claims.{CleanModule}
use Rattle.clean.specs.Unasked.{SmallestUnasked}
use Rattle.clean.proofs.Strictly.{derivable}

-- ---- the strict reader takes them
abbrev Taken : List ℕ → Type 0
Taken l = follow (strict_at (file l) limits) (λ m. accepted m.version) ≡ accepted 1

taken : Taken (0x02 ∷ 0x06 ∷ 0x01 ∷ 0x00 ∷ 0x00 ∷ 0x03 ∷ 0x00 ∷ 0x00 ∷ [])
    × Taken (0x02 ∷ 0x07 ∷ 0x01 ∷ 0x00 ∷ 0x00 ∷ 0x01 ∷ 0x00 ∷ 0x00 ∷ 0x00 ∷ [])
    × Taken (0x00 ∷ 0x09 ∷ 0x04 ∷ 0x6E ∷ 0x61 ∷ 0x6D ∷ 0x65 ∷ 0x00 ∷ 0x02 ∷ 0x00 ∷ 0x00 ∷ [])
    × Taken (0x00 ∷ 0x0B ∷ 0x04 ∷ 0x6E ∷ 0x61 ∷ 0x6D ∷ 0x65 ∷ 0x00 ∷ 0x01 ∷ 0x00 ∷ 0x00 ∷ 0x01 ∷ 0x00 ∷ [])
    × Taken (0x00 ∷ 0x0C ∷ 0x04 ∷ 0x6E ∷ 0x61 ∷ 0x6D ∷ 0x65 ∷ 0x01 ∷ 0x05 ∷ 0x02 ∷ 0x00 ∷ 0x00 ∷ 0x00 ∷ 0x00 ∷ [])
unfolding uleb_at u32_at told_at narrowed onward u_n grown spent byte_at fixed_at taken_at counted_at checked name_at module_at header_at
    relocated magic same walk_from walk turn_of section_at contents_at add_section capacity_of no_tables imports_of exports_of symbols_of entries_from
    import_at export_at symbol_at desc_at func_at table_at memory_at global_at limits_at label_at told_by subsection_at name_word custom_at up_to
    scan seq_len after followers follow_in covers utf8_table follow range_of
    fresh with_number with_entries with_flag number_marks part_marks limits_marks table_marks global_marks desc_marks import_marks export_marks
    symbol_marks
    entry_marks run_from run_marks told_marks framed_marks subsection_marks custom_marks list_marks contents_marks section_marks marks_at
    ids_of kinds_of export_names none_above section_place ordered_from ordered has different lowest_of broken held strict_at
taken = (refl, refl, refl, refl, refl)

-- ---- the port's grammar derives them
small : (n : ℕ) (l : List ℕ) → n < 128 → Number (n ∷ l) n l
small n l h = number (last_u {N = 64} {n = n} {l = l} h (omega arith)) (omega arith)

unnamed : (r : List ℕ) → Named (0x00 ∷ r) [] r
unfolding up_to scan
unnamed r = named (small 0 r (omega arith)) refl

called : (r : List ℕ) → Named (0x04 ∷ name_bytes ++ r) name_bytes r
unfolding up_to scan seq_len after covers followers follow_in
called r = named (small 4 (name_bytes ++ r) (omega arith)) refl

headed : (l : List ℕ) → AnyHeader (file l)
headed l = record { long = omega arith; starts = refl; some = omega arith }

-- ---- and none of them cleanly
bytes_of : (b : List ℕ) → none_above 255 b ≡ true → Bytes b
unfolding none_above
bytes_of [] e i = omega arith
bytes_of (x ∷ l) e i = at i (parts (leb x 255) (none_above 255 l) e) (λ q. bytes_of l q)
  where
    parts : (p q : Bool) → both p q ≡ true → (p ≡ true) × (q ≡ true)
    parts true q e = (refl, e)
    parts false q e = absurd (let z : ◌≡◌ {A = ℕ} 0 1 = cc in omega arith)

    at : (i : ℕ) → (leb x 255 ≡ true) × (none_above 255 l ≡ true) → (none_above 255 l ≡ true → Bytes l) → get_or (x ∷ l) i 0 < 256
    at zero w f = omega (arith, leb-true x 255 w.0)
    at (suc i) w f = f w.1 i

not-derived : (l : List ℕ) {vs : List SectionSaid} → none_above 255 (file l) ≡ true → length (file l) ≤ file_limit
    → (d : AnyModule (file l) vs)
    → (CleanModule d → ⊥) → (us : List SectionOf) → ModuleG (file l) us → ⊥
not-derived l e h d n us g = n ((derivable (file l) (bytes_of (file l) e) h d).exactly.0 (us, g))

-- type bytes
apart : {E : Type 0} {P : E → Type 0} {e : E} {es : List E} → Each P (e ∷ es) → P e × Each P es
apart (each-cons p ps) = (p, ps)

no-reference : (t : RefType) → ref_byte t ≡ 0 → ⊥
no-reference funcref e = omega arith
no-reference externref e = omega arith

no_value : (t : ValType) → val_byte t ≡ 0 → ⊥
no_value i32 e = omega arith
no_value i64 e = omega arith
no_value f32 e = omega arith
no_value f64 e = omega arith
no_value v128 e = omega arith
no_value (ref t) e = no-reference t e

untyped-global : {t m : ℕ} → t ≡ 0 → TypedDesc (global t m) → ⊥
untyped-global e (TypedDesc.globals (valbyte t)) = no_value t e

untyped-table : {e : ℕ} {m : Limits} → e ≡ 0 → TypedDesc (table_desc e m) → ⊥
untyped-table q (TypedDesc.tables (refbyte t)) = no-reference t q

value-type : (us : List SectionOf) → ModuleG (file (0x02 ∷ 0x06 ∷ 0x01 ∷ 0x00 ∷ 0x00 ∷ 0x03 ∷ 0x00 ∷ 0x00 ∷ [])) us → ⊥
unfolding none_above TypedImports TypedImport
value-type =
    not-derived (0x02 ∷ 0x06 ∷ 0x01 ∷ 0x00 ∷ 0x00 ∷ 0x03 ∷ 0x00 ∷ 0x00 ∷ []) refl (omega arith)
    (AnyModule.modul (headed _)
    (InARow.then
    (framed {id = 2} {p = 0x01 ∷ 0x00 ∷ 0x00 ∷ 0x03 ∷ 0x00 ∷ 0x00 ∷ []} {r = []} (small 6 _ (omega arith)) (AnySection.section
    (AnyContent.imports
    (counted (small 1 _ (omega arith)) (more (imported (unnamed _) (unnamed _) (AnyDesc.globals {r = []} {t = 0} {m = 0})) none)))))
    InARow.done))
    (λ c. untyped-global refl (apart (apart c.types).0).0)

element-type : (us : List SectionOf) → ModuleG (file (0x02 ∷ 0x07 ∷ 0x01 ∷ 0x00 ∷ 0x00 ∷ 0x01 ∷ 0x00 ∷ 0x00 ∷ 0x00 ∷ [])) us → ⊥
unfolding none_above TypedImports TypedImport
element-type =
    not-derived (0x02 ∷ 0x07 ∷ 0x01 ∷ 0x00 ∷ 0x00 ∷ 0x01 ∷ 0x00 ∷ 0x00 ∷ 0x00 ∷ []) refl (omega arith)
    (AnyModule.modul (headed _)
    (InARow.then
    (framed {id = 2} {p = 0x01 ∷ 0x00 ∷ 0x00 ∷ 0x01 ∷ 0x00 ∷ 0x00 ∷ 0x00 ∷ []} {r = []} (small 7 _ (omega arith)) (AnySection.section
    (AnyContent.imports
    (counted (small 1 _ (omega arith))
    (more (imported (unnamed _) (unnamed _) (AnyDesc.tables {e = 0} (even {f = 0} refl (small 0 [] (omega arith))))) none)))))
    InARow.done))
    (λ c. untyped-table refl (apart (apart c.types).0).0)

-- name sections
longer : {x : ℕ} {l : List ℕ} → x ∷ l ≡ [] → ⊥
longer e = let z : ◌≡◌ {A = ℕ} 0 1 = cc in omega arith

unused-byte : (us : List SectionOf)
    → ModuleG (file (0x00 ∷ 0x09 ∷ 0x04 ∷ 0x6E ∷ 0x61 ∷ 0x6D ∷ 0x65 ∷ 0x00 ∷ 0x02 ∷ 0x00 ∷ 0x00 ∷ [])) us → ⊥
unfolding none_above TidyNames EveryRow TidySubs
unused-byte =
    not-derived (0x00 ∷ 0x09 ∷ 0x04 ∷ 0x6E ∷ 0x61 ∷ 0x6D ∷ 0x65 ∷ 0x00 ∷ 0x02 ∷ 0x00 ∷ 0x00 ∷ []) refl (omega arith)
    (AnyModule.modul (headed _)
    (InARow.then
    (framed {id = 0} {p = 0x04 ∷ name_bytes ++ (0x00 ∷ 0x02 ∷ 0x00 ∷ 0x00 ∷ [])} {r = []} (small 9 _ (omega arith)) (AnySection.section
    (AnyContent.names (called (0x00 ∷ 0x02 ∷ 0x00 ∷ 0x00 ∷ []))
    (InARow.then
    (framed {id = 0} {p = 0x00 ∷ 0x00 ∷ []} {r = []} (small 2 _ (omega arith)) (AnySub.modulename (unnamed (0x00 ∷ []))))
    InARow.done))))
    InARow.done))
    (λ c. longer c.names.0.1)

twice-named : (us : List SectionOf)
    → ModuleG (file (0x00 ∷ 0x0B ∷ 0x04 ∷ 0x6E ∷ 0x61 ∷ 0x6D ∷ 0x65 ∷ 0x00 ∷ 0x01 ∷ 0x00 ∷ 0x00 ∷ 0x01 ∷ 0x00 ∷ [])) us → ⊥
unfolding none_above TidyNames EveryRow TidySubs
twice-named =
    not-derived (0x00 ∷ 0x0B ∷ 0x04 ∷ 0x6E ∷ 0x61 ∷ 0x6D ∷ 0x65 ∷ 0x00 ∷ 0x01 ∷ 0x00 ∷ 0x00 ∷ 0x01 ∷ 0x00 ∷ []) refl (omega arith)
    (AnyModule.modul (headed _)
    (InARow.then
    (framed {id = 0} {p = 0x04 ∷ name_bytes ++ (0x00 ∷ 0x01 ∷ 0x00 ∷ 0x00 ∷ 0x01 ∷ 0x00 ∷ [])} {r = []} (small 11 _ (omega arith))
    (AnySection.section
    (AnyContent.names (called (0x00 ∷ 0x01 ∷ 0x00 ∷ 0x00 ∷ 0x01 ∷ 0x00 ∷ []))
    (InARow.then
    (framed {id = 0} {p = 0x00 ∷ []} {r = 0x00 ∷ 0x01 ∷ 0x00 ∷ []} (small 1 _ (omega arith)) (AnySub.modulename (unnamed [])))
    (InARow.then (framed {id = 0} {p = 0x00 ∷ []} {r = []} (small 1 _ (omega arith)) (AnySub.modulename (unnamed []))) InARow.done)))))
    InARow.done))
    (λ c. let h : 1 ≤ 0 = c.names.0.2.0 in omega arith)

same_index : {f g : FunctionOf} {fs : List FunctionOf} {low : ℕ} → f.index ≡ g.index → Rising low (f ∷ g ∷ fs) → ⊥
same_index e (Rising.then h (Rising.then k r)) = omega arith

twice-indexed : (us : List SectionOf)
    → ModuleG (file (0x00 ∷ 0x0C ∷ 0x04 ∷ 0x6E ∷ 0x61 ∷ 0x6D ∷ 0x65 ∷ 0x01 ∷ 0x05 ∷ 0x02 ∷ 0x00 ∷ 0x00 ∷ 0x00 ∷ 0x00 ∷ [])) us → ⊥
unfolding none_above TidyNames EveryRow TidySubs
twice-indexed =
    not-derived (0x00 ∷ 0x0C ∷ 0x04 ∷ 0x6E ∷ 0x61 ∷ 0x6D ∷ 0x65 ∷ 0x01 ∷ 0x05 ∷ 0x02 ∷ 0x00 ∷ 0x00 ∷ 0x00 ∷ 0x00 ∷ []) refl (omega arith)
    (AnyModule.modul (headed _)
    (InARow.then
    (framed {id = 0} {p = 0x04 ∷ name_bytes ++ (0x01 ∷ 0x05 ∷ 0x02 ∷ 0x00 ∷ 0x00 ∷ 0x00 ∷ 0x00 ∷ [])} {r = []} (small 12 _ (omega arith))
    (AnySection.section
    (AnyContent.names (called (0x01 ∷ 0x05 ∷ 0x02 ∷ 0x00 ∷ 0x00 ∷ 0x00 ∷ 0x00 ∷ []))
    (InARow.then
    (framed {id = 1} {p = 0x02 ∷ 0x00 ∷ 0x00 ∷ 0x00 ∷ 0x00 ∷ []} {r = []} (small 5 _ (omega arith))
    (AnySub.funcnames
    (counted (small 2 _ (omega arith))
    (more (assoc (small 0 _ (omega arith)) (unnamed _)) (more (assoc (small 0 _ (omega arith)) (unnamed [])) none)))))
    InARow.done))))
    InARow.done))
    (λ c. same_index refl c.names.0.1.1)

pub smallest-unasked : SmallestUnasked
smallest-unasked =
    record {
      value_type = record { strict = taken.0; none = value-type };
      element_type = record { strict = taken.1; none = element-type };
      unused = record { strict = taken.2; none = unused-byte };
      twice = record { strict = taken.3; none = twice-named };
      indices = record { strict = taken.4; none = twice-indexed };
    }
