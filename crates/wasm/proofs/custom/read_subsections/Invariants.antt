use Prim.Native.Nat.{◌-◌}
use mathlib.Core.Path.{◌≡◌}
use lib.ListN.{length}
use Rattle.table.specs.Walking.{walk_from}
use Rattle.table.proofs.Walking.{Going}
use Rattle.wasm.specs.Custom.{Names, named_of, NamesHeld, subsection_at}
use Rattle.wasm.proofs.custom.read_subsections.Given as goal

abbrev pub invariant-loop-c : goal.invariant-loop-c
invariant-loop-c l = ((t : Names) → l.initial.n ≡ named_of t → NamesHeld l.initial.names (length l.initial.names) t
    → Going named_of (NamesHeld l.names (length l.initial.names)) l.n (subsection_at l.s l.base (length l.initial.names)) l.s
    (walk_from (subsection_at l.s l.base (length l.initial.names)) l.s l.initial.c.at t) l.c.at)
    × (length l.names ≡ length l.initial.names)

abbrev pub decreases-loop-c : goal.decreases-loop-c
decreases-loop-c l = length l.s - l.c.at
