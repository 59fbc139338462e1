-- docs/RULES.md, "Texts", the manifest: lines to directives to worlds, and what tables 5 and 6 hold. Assumes nothing.
use Rattle.std.specs.Prelude.{ℕ, ◌+◌, ◌≡◌, Bool, List, [], ◌∷◌, ◌++◌, length, drop, ltb, eqb}
use Rattle.std.specs.Prelude.{Option, Some, None, is_some, Result, Ok, Err}
use Rattle.refusal.specs.Pick.{pick, one_if}
use Rattle.refusal.specs.Said.{Said, accepted, refused, refused_by, said_by, follow, Got, got, onward, spot}
use Rattle.refusal.specs.declared.Part.{Part}
use Rattle.refusal.specs.declared.Refusal.{Refusal}
use Rattle.text.specs.Lines.{line_len, line_step}
use Rattle.table.specs.Table.{laid, cells}
use Rattle.table.specs.Shape.{capacity_in}
use Rattle.table.specs.Told.{ReaderTells}
use Rattle.table.specs.Walking.{walk_from}
use Rattle.text.specs.Whole.{whole_text}
use Rattle.text.specs.Piece.{Piece, piece}
use Rattle.wit.specs.Line.{range_in, manifest_directive}
use Rattle.wit.specs.declared.line.Directive.{Directive}
use Rattle.wit.specs.declared.line.Directive.TheVariants.{Blank, Package, World, Close, Refer, Brace, Other}
use Rattle.wit.specs.declared.rows.Reference.{Reference}
use Rattle.wit.specs.declared.rows.Known.{Known}
use Rattle.wit.specs.declared.Manifest.{Manifest}

-- ---- what is read
-- the number of the last line, the package, the open world's name, the worlds that are closed, the references of all
pub record State : Type 0 where
  pub line : ℕ
  pub pack : Option Part
  pub world : Option Part
  pub worlds : List Part
  pub references : List Reference

unfoldable pub start : State
start = record { line = 0; pack = None; world = None; worlds = []; references = [] }

abbrev pub on_next : State → State
on_next t = record { line = t.line + 1; pack = t.pack; world = t.world; worlds = t.worlds; references = t.references }

abbrev pub with_package : Part → State → State
with_package p t = record { line = t.line; pack = Some p; world = t.world; worlds = t.worlds; references = t.references }

abbrev pub with_world : Part → State → State
with_world p t = record { line = t.line; pack = t.pack; world = Some p; worlds = t.worlds; references = t.references }

-- the open world is the next row
abbrev pub world_closed : Part → State → State
world_closed name t =
    record {
      line = t.line;
      pack = t.pack;
      world = None;
      worlds = t.worlds ++ (name ∷ []);
      references = t.references;
    }

-- a reference of the open world, whose row is the next
abbrev pub row_of : State → Bool → Part → Option Part → Reference
row_of t export path signature = record { world = length t.worlds; export = export; path = path; signature = signature }

abbrev pub referred : State → Reference → State
referred t row =
    record {
      line = t.line;
      pack = t.pack;
      world = t.world;
      worlds = t.worlds;
      references = t.references ++ (row ∷ []);
    }

-- how many cells each table has
pub record ManifestSizes : Type 0 where
  pub worlds : ℕ
  pub references : ℕ

-- ---- reading: each step says where the next line begins
-- an open world takes its row: 13 where table 5 is full
abbrev pub shut_at : ManifestSizes → ℕ → State → Option Part → Said (Got State)
shut_at z next t None = accepted (got t next)
shut_at z next t (Some name) =
    pick (ltb (length t.worlds) (capacity_in 5 z.worlds)) (accepted (got (world_closed name t) next)) (refused 13 (spot 5))

unfoldable pub close_at : ManifestSizes → ℕ → State → Said (Got State)
close_at z next t = shut_at z next t t.world

-- the world before it closes first; then a name that is empty is 10
unfoldable pub open_at : ManifestSizes → Part → ℕ → State → Said (Got State)
open_at z name next t =
    onward (close_at z next t) (λ u at.
    pick (eqb name.len 0) (refused 10 (spot u.line)) (accepted (got (with_world name u) at)))

-- 13 where table 6 is full
unfoldable pub refer_at : ManifestSizes → Bool → Part → Option Part → ℕ → State → Said (Got State)
refer_at z export path signature next t =
    pick (ltb (length t.references) (capacity_in 6 z.references))
    (accepted (got (referred t (row_of t export path signature)) next)) (refused 13 (spot 6))

-- one thing in a world, another outside
abbrev pub in_world : State → Said (Got State) → Said (Got State) → Said (Got State)
in_world t a b = pick (is_some t.world) a b

unfoldable pub obey_at : ManifestSizes → Directive → ℕ → State → Said (Got State)
obey_at z Blank next t = accepted (got t next)
obey_at z (Package p) next t = in_world t (refused 9 (spot t.line)) (accepted (got (with_package p t) next))
obey_at z (World p) next t = open_at z p next t
obey_at z Close next t = in_world t (close_at z next t) (refused 11 (spot t.line))
obey_at z (Refer export path signature) next t = in_world t (refer_at z export path signature next t) (refused 12 (spot t.line))
obey_at z Brace next t = in_world t (accepted (got t next)) (refused 6 (spot t.line))
obey_at z Other next t = refused 6 (spot t.line)

-- the line that begins at an offset of the text
abbrev pub line_piece : List ℕ → ℕ → Piece
line_piece s at = piece s at (at + line_len (drop at s))

unfoldable pub line_at : List ℕ → ManifestSizes → ℕ → State → Said (Got State)
line_at s z at t = obey_at z (manifest_directive (line_piece s at)) (at + line_step (drop at s)) (on_next t)

-- line after line; the end of the text closes an open world
unfoldable pub lines_at : List ℕ → ManifestSizes → Said (Got State)
lines_at s z = onward (walk_from (line_at s z) s 0 start) (λ t at. close_at z at t)

-- the text as a whole, then its lines
unfoldable pub manifest_at : List ℕ → ManifestSizes → Said State
manifest_at s z = follow (whole_text s) (λ ok. onward (lines_at s z) (λ t at. accepted t))

-- ---- the answer, and the lent tables
unfoldable pub known_of : State → Known
known_of t =
    record {
      line = t.line;
      pack = t.pack;
      world = t.world;
      worlds = length t.worlds;
      references = length t.references;
    }

abbrev pub manifest_known : Known → Manifest
manifest_known k =
    record {
      «package» = k.pack;
      worlds = k.worlds;
      references = k.references;
    }

-- the package, and how many rows each table has
unfoldable pub manifest_of : State → Manifest
manifest_of t = manifest_known (known_of t)

abbrev pub said_manifest : Result Manifest Refusal → Said Manifest
said_manifest r = said_by r

-- table 5: where the name is
unfoldable pub world_cells : Part → List ℕ
world_cells r = r.from ∷ r.len ∷ []

-- table 6: the world's row, export or import, where the path is, whether there is a signature, where it is
unfoldable pub reference_cells : Reference → List ℕ
reference_cells r =
    r.world
    ∷ one_if r.export
    ∷ r.path.from
    ∷ r.path.len
    ∷ one_if (is_some r.signature)
    ∷ (range_in r.signature).from
    ∷ (range_in r.signature).len
    ∷ []

-- the two tables as they are lent
pub record ManifestLent : Type 0 where
  pub worlds : List ℕ
  pub references : List ℕ

abbrev pub lend_manifest : List ℕ → List ℕ → ManifestLent
lend_manifest w r = record { worlds = w; references = r }

abbrev pub sized : ℕ → ℕ → ManifestSizes
sized n m = record { worlds = n; references = m }

abbrev pub manifest_sizes : List ℕ → List ℕ → ManifestSizes
manifest_sizes w r = sized (length w) (length r)

-- the lent tables hold the rows, and zeros after them, in every cell
pub record ManifestHolds (l : ManifestLent) (z : ManifestSizes) (t : State) : Type 0 where
  pub worlds-are : l.worlds ≡ laid z.worlds (cells world_cells t.worlds)
  pub references-are : l.references ≡ laid z.references (cells reference_cells t.references)

-- after a refusal both tables are zero throughout
unfoldable pub manifest_held : Said State → State
manifest_held (accepted t) = t
manifest_held (refused n p) = start

-- the promise of `read_manifest`: the answer, and what both tables hold at the end
pub record ManifestIs (z : ManifestSizes) (x : Said State) (l : ManifestLent) (a : Said Manifest) : Type 0 where
  pub answer-is : a ≡ follow x (λ t. accepted (manifest_of t))
  pub tables-are : ManifestHolds l z (manifest_held x)

-- ---- for the code
abbrev pub next_line : Known → Known
next_line k = record { line = k.line + 1; pack = k.pack; world = k.world; worlds = k.worlds; references = k.references }

abbrev pub packaged : Part → Known → Known
packaged p k = record { line = k.line; pack = Some p; world = k.world; worlds = k.worlds; references = k.references }

abbrev pub opened : Part → Known → Known
opened p k = record { line = k.line; pack = k.pack; world = Some p; worlds = k.worlds; references = k.references }

abbrev pub said_known : Result (Known × ℕ) Refusal → Said (Got Known)
said_known (Ok (v, next)) = accepted (got v next)
said_known (Err why) = refused_by why

-- where the answer is an acceptance, it is of line n
unfoldable pub Numbered : ℕ → Said (Got Known) → Type 0
Numbered n (accepted (got k d)) = k.line ≡ n
Numbered n (refused m p) = Unit {0}

-- whatever state the code's numbers stand for, with the tables as they were: the answer is that of x, and the tables hold what x gives
abbrev pub Steps : ManifestSizes → ManifestLent → ManifestLent → Known → (State → Said (Got State)) → Said (Got Known) → Type 0
Steps z before after k x a = (t : State) → k ≡ known_of t → ManifestHolds before z t → ReaderTells known_of (ManifestHolds after z) (x t) a
