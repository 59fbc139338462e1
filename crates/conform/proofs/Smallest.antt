-- A smallest input for each difference, computed. Assumes nothing.
use mathlib.Core.Path.{refl}
use Rattle.refusal.specs.Said.{follow, onward, relocated}
use Rattle.text.specs.Walk.{walk}
use Rattle.text.specs.Find.{same}
use Rattle.text.specs.Scan.{scan}
use Rattle.text.specs.Utf8.{up_to, seq_len, after, covers, followers, follow_in}
use Rattle.table.specs.Table.{cells, capacity_of}
use Rattle.table.specs.Entries.{entries_from}
use Rattle.table.specs.Walking.{turn_of, walk_from}
use Rattle.leb.specs.Groups.{u_n, grown, spent}
use Rattle.leb.specs.Reads.{byte_at, u32_at, uleb_at, told_at, narrowed, taken_at, fixed_at, name_at, checked, counted_at}
use Rattle.wasm.specs.Entry.{limits_at, func_at, table_at, memory_at, global_at, desc_at, import_at, export_at}
use Rattle.wasm.specs.Rows.{desc_cells, import_cells, imports_of, exports_of}
use Rattle.wasm.specs.Custom.{label_at, told_by, subsection_at, name_word, custom_at}
use Rattle.wasm.specs.Module.{contents_at, add_section, section_at, header_at, magic, no_tables, module_at}
use Rattle.conform.specs.Beyond.{Smallest}
use Rattle.conform.specs.Places.{Worked}
use Rattle.conform.specs.Asked.{RowsWorked}

-- each by computing
pub smallest : Smallest
unfolding module_at header_at magic taken_at fixed_at onward relocated same walk_from turn_of walk section_at byte_at counted_at u32_at uleb_at
    told_at narrowed u_n grown spent contents_at custom_at name_word subsection_at name_at checked up_to scan seq_len after covers followers
    follow_in imports_of entries_from capacity_of import_at desc_at func_at add_section no_tables limits_at export_at table_at global_at
smallest =
    record {
      version = refl;
      unused = refl;
      disordered = refl;
      repeated = refl;
      id = refl;
      flag = refl;
      kind = refl;
      element = refl;
      mutability = refl;
      size = refl;
      names = refl;
    }

-- and for each way in which a place is moved
pub worked : Worked
unfolding module_at header_at magic taken_at fixed_at onward relocated same walk_from turn_of walk section_at byte_at counted_at u32_at uleb_at
    told_at narrowed u_n grown spent contents_at custom_at name_word label_at told_by subsection_at name_at checked up_to scan seq_len after
    covers followers follow_in imports_of exports_of entries_from capacity_of import_at export_at desc_at func_at global_at add_section no_tables
worked =
    record {
      payload = refl;
      padded = refl;
      kind = refl;
      other = refl;
      global = refl;
      index = refl;
      number = refl;
      version = refl;
      whole = refl;
      cut = refl;
      twice = refl;
      once = refl;
      full = refl;
      sum = refl;
    }

-- and for what an import asks for
pub rows-worked : RowsWorked
unfolding follow module_at header_at magic taken_at fixed_at onward relocated same walk_from turn_of walk section_at byte_at counted_at u32_at
    uleb_at told_at narrowed u_n grown spent contents_at name_at checked up_to scan seq_len after covers followers follow_in imports_of entries_from
    capacity_of import_at desc_at func_at table_at memory_at global_at limits_at add_section no_tables cells import_cells desc_cells
rows-worked = record { function = refl; zero = refl; table = refl; memory = refl; flag = refl; global = refl }
