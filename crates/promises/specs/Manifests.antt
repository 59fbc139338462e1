-- docs/RULES.md, "Tables": what the manifest reader leaves never gives 15. Assumes nothing.
use Rattle.std.specs.Prelude.{◌≡◌, List, ℕ, length}
use Rattle.refusal.specs.Said.{accepted}
use Rattle.wit.specs.Manifest.{State, ManifestSizes, ManifestLent, ManifestHolds, manifest_at}
use Rattle.reference_rows.specs.Queries.{manifest_tested}

-- the text and the tables as an accepted read leaves them, handed in with the counts that it answered
abbrev pub NeverBad : Type 0
NeverBad =
    (s : List ℕ) (z : ManifestSizes) (t : State) (l : ManifestLent) → manifest_at s z ≡ accepted t → ManifestHolds l z t
    → manifest_tested s l.worlds (length t.worlds) l.references (length t.references) ≡ accepted tt
