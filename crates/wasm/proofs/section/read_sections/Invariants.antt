use Prim.Native.Nat.{◌-◌}
use mathlib.Core.Path.{◌≡◌}
use lib.ListN.{length}
use Rattle.table.specs.Walking.{walk_from}
use Rattle.table.proofs.Walking.{Going}
use Rattle.wasm.specs.Lending.{lent, sizes_of, SameTables}
use Rattle.wasm.specs.Module.{Holds, no_tables, section_at}
use Rattle.wasm.specs.Module.{counts_of}
use Rattle.wasm.proofs.section.read_sections.Given as goal

abbrev pub invariant-loop-c : goal.invariant-loop-c
invariant-loop-c l =
    let i = l.initial in
    let z = sizes_of i.tables in
    Going counts_of (Holds (lent l.tables) z) l.n (section_at l.file z) l.file
    (walk_from (section_at l.file z) l.file i.c.at no_tables) l.c.at
    × SameTables i.tables l.tables

abbrev pub decreases-loop-c : goal.decreases-loop-c
decreases-loop-c l = length l.file - l.c.at
