use Prim.Native.Nat.{◌-◌, ◌≤◌}
use mathlib.Core.Path.{◌≡◌}
use lib.ListN.{length}
use Rattle.table.specs.Walking.{walk_from}
use Rattle.table.proofs.Walking.{Going}
use Rattle.wit.specs.Manifest.{lend_manifest, manifest_sizes, ManifestHolds, start, line_at, known_of}
use Rattle.wit.proofs.read_lines.Given as goal

abbrev pub invariant-loop-at : goal.invariant-loop-at
invariant-loop-at l =
    Going known_of (ManifestHolds (lend_manifest l.worlds l.references) (manifest_sizes l.initial.worlds l.initial.references)) l.k
    (line_at l.s (manifest_sizes l.initial.worlds l.initial.references)) l.s
    (walk_from (line_at l.s (manifest_sizes l.initial.worlds l.initial.references)) l.s 0 start) l.at
    × (manifest_sizes l.worlds l.references ≡ manifest_sizes l.initial.worlds l.initial.references) × (l.k.line ≤ l.at)

abbrev pub decreases-loop-at : goal.decreases-loop-at
decreases-loop-at l = length l.s - l.at
