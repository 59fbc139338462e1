-- The seven files that need one domain each, computed from their bytes. Assumes nothing.
use Rattle.std.specs.Prelude.{None}
use mathlib.Core.Path.{◌≡◌, refl}
use mathlib.Core.Bool.{false}
use mathlib.Core.List.{[], ◌∷◌}
use Prim.Native.Nat.{ℕ, zero, suc, ◌+◌, ◌<◌}
use native.Mathlib.Omega.{arith}
use lib.ListN.{length}
use Rattle.refusal.specs.Said.{accepted, follow, onward, relocated}
use Rattle.text.specs.Find.{seek, begins, same, index_of}
use Rattle.text.specs.Scan.{scan}
use Rattle.text.specs.Utf8.{up_to, seq_len, after, followers, follow_in, covers, utf8_table}
use Rattle.text.specs.Walk.{walk}
use Rattle.table.specs.Table.{capacity_of, cells, laid, cell_of, range_of}
use Rattle.table.specs.Entries.{entries_from}
use Rattle.table.specs.Walking.{turn_of, walk_from}
use Rattle.leb.specs.Groups.{u_n, twos, grown, spent}
use Rattle.leb.specs.Reads as Reads
use Rattle.leb.specs.Reads.{told_at, narrowed, uleb_at, u32_at, part, byte_at, fixed_at, taken_at, counted_at, name_at}
use Rattle.wasm.specs.Entry.{func_at, desc_at, import_at}
use Rattle.wasm.specs.Rows.{desc_cells, import_cells, imports_of}
use Rattle.wasm.specs.Module.{Parsed, no_tables, magic, header_at, contents_at, add_section, section_at, module_at, module_of, counts_of}
use Rattle.wasm.specs.Shapes.{func}
use Rattle.conform.specs.Claims.{Bytes}
use Rattle.conform.specs.Sound.{limits}
use Rattle.import_rows.specs.Queries.{kind_is}
use Rattle.domains.specs.Classify as Classify
use Rattle.domains.specs.Classify.{classed_by, preview, heads, head_of, path_domain, import_domain}
use Rattle.differences.specs.View.{need_at}
use Rattle.standin.specs.Builds.{Build, domains}
use Rattle.standin.proofs.Examples.{small, small_bytes}
use Rattle.standin.proofs.Limits.{left, whole}
use Rattle.series.specs.Policies.{sole_source, sole}

pub sole-bytes : (d : ℕ) → d < 7 → Bytes (sole d)
unfolding small sole heads
sole-bytes zero h = small_bytes (sole 0) refl
sole-bytes (suc zero) h = small_bytes (sole 1) refl
sole-bytes (suc (suc zero)) h = small_bytes (sole 2) refl
sole-bytes (suc (suc (suc zero))) h = small_bytes (sole 3) refl
sole-bytes (suc (suc (suc (suc zero)))) h = small_bytes (sole 4) refl
sole-bytes (suc (suc (suc (suc (suc zero))))) h = small_bytes (sole 5) refl
sole-bytes (suc (suc (suc (suc (suc (suc zero)))))) h = small_bytes (sole 6) refl
sole-bytes (suc (suc (suc (suc (suc (suc (suc d))))))) h = absurd (omega arith)

-- what is read: section 2 with one import
abbrev pub sole_read : ℕ → Parsed
sole_read d =
    record {
      version = 1;
      tables = record {
        sections = record { id = 2; from = 10; size = 6 + length (sole_source d); name = part 0 0 } ∷ [];
        imports =
            record {
              «module» = part 12 (length (sole_source d));
              field = part (13 + length (sole_source d)) 1;
              kind = 0;
              desc = func 0;
            }
            ∷ [];
        exports = [];
        names = record { label = None; symbols = [] };
      };
    }

pub sole_reads : (d : ℕ) → d < 7 → module_at (sole d) limits ≡ accepted (sole_read d)
unfolding sole heads uleb_at u32_at told_at narrowed onward u_n twos grown spent byte_at fixed_at taken_at counted_at Reads.checked name_at module_at
    header_at magic same walk_from walk turn_of relocated section_at contents_at add_section capacity_of no_tables imports_of entries_from import_at
    desc_at func_at up_to scan seq_len after followers follow_in covers utf8_table follow seek begins index_of
sole_reads zero h = refl
sole_reads (suc zero) h = refl
sole_reads (suc (suc zero)) h = refl
sole_reads (suc (suc (suc zero))) h = refl
sole_reads (suc (suc (suc (suc zero)))) h = refl
sole_reads (suc (suc (suc (suc (suc zero))))) h = refl
sole_reads (suc (suc (suc (suc (suc (suc zero)))))) h = refl
sole_reads (suc (suc (suc (suc (suc (suc (suc d))))))) h = absurd (omega arith)

-- so each is a build
abbrev pub sole_build : (d : ℕ) → d < 7 → Build
sole_build d h = whole (sole d) (sole_read d) (sole_reads d h) (sole-bytes d h)

pub sole-domains : (d : ℕ) (h : d < 7) → domains (sole_build d h) ≡ d ∷ []
unfolding sole whole left module_of counts_of need_at laid cells import_cells desc_cells cell_of range_of kind_is import_domain path_domain head_of
    classed_by
    Classify.passes preview heads seek begins same index_of
sole-domains zero h = refl
sole-domains (suc zero) h = refl
sole-domains (suc (suc zero)) h = refl
sole-domains (suc (suc (suc zero))) h = refl
sole-domains (suc (suc (suc (suc zero)))) h = refl
sole-domains (suc (suc (suc (suc (suc zero))))) h = refl
sole-domains (suc (suc (suc (suc (suc (suc zero)))))) h = refl
sole-domains (suc (suc (suc (suc (suc (suc (suc d))))))) h = absurd (omega arith)
