-- docs/PROMISES.md, "wit, references": what holds of all that the reader accepts, whatever the text; and of the room that it is lent.
-- Assumes nothing.
use Rattle.std.specs.Prelude.{ℕ, ◌+◌, ◌≤◌, ◌<◌, ◌≡◌, List, [], ◌∷◌, length, take, drop, Option, Some}
use Rattle.refusal.specs.Said.{accepted}
use Rattle.refusal.specs.declared.Part.{Part}
use Rattle.text.specs.Find.{index_of, index_of2}
use Rattle.text.specs.Trim.{trim_of}
use Rattle.table.specs.Shape.{capacity_in}
use Rattle.refusal.specs.Each.{Each}
use Rattle.wit.specs.Manifest.{State, ManifestSizes, manifest_at}
use Rattle.wit.specs.declared.rows.Reference.{Reference}

-- ---- the parts of a text
abbrev pub bytes_in : List ℕ → Part → List ℕ
bytes_in s p = take p.len (drop p.from s)

-- a range of the text, trimmed, that holds no LF and no `//`
pub record Clean (s : List ℕ) (p : Part) : Type 0 where
  pub in-text : p.from + p.len ≤ length s
  pub trimmed : trim_of (bytes_in s p) ≡ bytes_in s p
  pub no_line : index_of 10 (bytes_in s p) ≡ length (bytes_in s p)
  pub no-comment : index_of2 47 47 (bytes_in s p) ≡ length (bytes_in s p)

-- what is there is such a range
pub record MarkClean (s : List ℕ) (m : Option Part) : Type 0 where
  pub present : (p : Part) → m ≡ Some p → Clean s p

-- a world has a name
pub record WorldOk (s : List ℕ) (p : Part) : Type 0 where
  pub name-clean : Clean s p
  pub named : 0 < p.len

-- a reference points to one of so many worlds
pub record ReferenceOk (s : List ℕ) (worlds : ℕ) (r : Reference) : Type 0 where
  pub world-in : r.world < worlds
  pub path-clean : Clean s r.path
  pub signature-clean : MarkClean s r.signature

-- the worlds that references point to ascend
abbrev pub Ascends : List Reference → Type 0
Ascends [] = Unit {0}
Ascends (r ∷ rs) = Each (λ q. r.world ≤ q.world) rs × Ascends rs

-- ---- the claims
pub record ManifestOk (s : List ℕ) (z : ManifestSizes) (t : State) : Type 0 where
  pub package-clean : MarkClean s t.pack
  pub worlds-ok : Each (WorldOk s) t.worlds
  pub worlds-few : length t.worlds ≤ capacity_in 5 z.worlds
  pub references-ok : Each (ReferenceOk s (length t.worlds)) t.references
  pub references-few : length t.references ≤ capacity_in 6 z.references
  pub worlds-ascend : Ascends t.references

abbrev pub ManifestRowsSound : Type 0
ManifestRowsSound = (s : List ℕ) (z : ManifestSizes) (t : State) → manifest_at s z ≡ accepted t → ManifestOk s z t

-- w has at least the room of z
pub record ManifestLarger (z w : ManifestSizes) : Type 0 where
  pub worlds : capacity_in 5 z.worlds ≤ capacity_in 5 w.worlds
  pub references : capacity_in 6 z.references ≤ capacity_in 6 w.references

-- a text that is accepted with some tables is accepted with larger ones: the same package and rows
abbrev pub ManifestLargerSame : Type 0
ManifestLargerSame = (s : List ℕ) (z w : ManifestSizes) (t : State) → ManifestLarger z w → manifest_at s z ≡ accepted t
    → manifest_at s w ≡ accepted t
