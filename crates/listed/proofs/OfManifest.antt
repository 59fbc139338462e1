-- A manifest that was read, its rows, and its paths. Assumes nothing.
use Rattle.std.specs.Prelude.{Result, Ok, Err}
use Prim.Native.Nat.{ℕ, ◌≤◌}
use native.Mathlib.Omega.{arith}
use mathlib.Core.Path.{◌≡◌, refl, sym, ap, ◌∙◌, subst}
use mathlib.Core.Bool.{true, false}
use mathlib.Core.List.{List}
use lib.ListN.{length, take, length-take}
use Rattle.refusal.specs.Said.{Said, accepted, refused, refused_by, said_by, Place}
use Rattle.refusal.specs.declared.Part.{Part}
use Rattle.refusal.specs.declared.Refusal.{Refusal}
use Rattle.refusal.proofs.Following.{followed, follow-stops, follow-goes}
use Rattle.table.specs.Table.{laid, cells}
use Rattle.table.specs.Shape.{width, limit, full_cells}
use Rattle.table.specs.Listing.{ListsRows, rows_in}
use Rattle.wit.specs.Shapes.{Reference}
use Rattle.wit.specs.Manifest.{State, manifest_at, manifest_of, known_of, said_manifest, world_cells, reference_cells}
use Rattle.wit.specs.Manifest.{ManifestLent, ManifestHolds, manifest_held, ManifestIs}
use Rattle.wit.specs.declared.Manifest.{Manifest}
use Rattle.reference_rows.specs.Queries.{paths_of}
use Rattle.output.specs.Bytes.{room_for}
use Rattle.listed.specs.declared.manifests.ManifestTold.{ManifestTold}
use Rattle.listed.specs.Delivered.{Lays, Delivers}
use Rattle.listed.specs.Manifests.{ManifestListing, laid_bytes, manifest_bytes, manifest_by, manifest_told, paths_listed}
use Rattle.listed.specs.Manifests.{manifest_limits, manifest_listed}
use Rattle.listed.specs.Manifests.{ManifestCounted, worlds_in, references_in}
use Rattle.listed.proofs.Laying.{delivers}
use Rattle.refusal.proofs.Following.{one_value, first-refused}
use Rattle.table.proofs.Taken.{rows_taken, rows_inside, list-taken, list_inside}

world-wide : (r : Part) → length (world_cells r) ≡ width 5
unfolding world_cells
world-wide r = refl

reference-wide : (r : Reference) → length (reference_cells r) ≡ width 6
unfolding reference_cells
reference-wide r = refl

-- ---- a list of paths that was made, in a table at the limit
pub record PathsFound (x : Said (List ℕ)) (table : List ℕ) (k : ℕ) : Type 0 where
  pub what : List ℕ
  pub first : x ≡ accepted what
  pub many : k ≡ length what
  pub held : table ≡ laid (limit 15) what

module _ {x : Said (List ℕ)} {before after : List ℕ} {r : Result ℕ Refusal} (h : ListsRows x before after (said_by r)) where
  pub paths-refused : {why : Refusal} → r ≡ Err why → x ≡ refused_by why
  paths-refused e = first-refused x length (sym h.answer-is ∙ ap said_by e)

  pub paths-found : {k : ℕ} → length before ≡ limit 15 → r ≡ Ok k → PathsFound x after k
  paths-found {k} long e =
      let f = followed x (λ l. accepted (length l)) (sym h.answer-is ∙ ap said_by e) in
      record {
        what = f.what;
        first = f.first;
        many = one_value (sym f.then);
        held = h.table_is
            ∙ ap (λ (n : ℕ). laid n (rows_in x)) long
            ∙ ap (λ (y : Said (List ℕ)). laid (limit 15) (rows_in y)) f.first;
      }

module _ {x : Said (List ℕ)} {table : List ℕ} {k : ℕ} (f : PathsFound x table k) where
  pub paths-taken : take k table ≡ f.what
  paths-taken = list-taken (limit 15) f.what f.held f.many

  pub paths-inside : k ≤ length table
  paths-inside = list_inside (limit 15) f.what f.held f.many

  pub paths-short : length table ≤ limit 15 → length (take k table) ≤ limit 15
  paths-short h = simp length-take (omega arith)

module _ (s : List ℕ) (m : Manifest) (table5 table6 worlds references : List ℕ) where
  abbrev one : Said (List ℕ)
  one = paths_of false s table5 m.worlds table6 m.references (limit 15)

  abbrev two : Said (List ℕ)
  two = paths_of true s table5 m.worlds table6 m.references (limit 15)

  pub imports-stop : {n : ℕ} {p : Place} → one ≡ refused n p → paths_listed s m table5 table6 worlds references ≡ refused n p
  unfolding paths_listed
  imports-stop e = sym (follow-stops _ e)

  pub exports-stop : {i : List ℕ} {n : ℕ} {p : Place} → one ≡ accepted i → two ≡ refused n p
      → paths_listed s m table5 table6 worlds references ≡ refused n p
  unfolding paths_listed
  exports-stop e f = sym (follow-goes _ e (follow-stops _ f))

  pub paths-listed : {i e : List ℕ} → one ≡ accepted i → two ≡ accepted e
      → paths_listed s m table5 table6 worlds references
      ≡ accepted (record { manifest = m; worlds = worlds; references = references; imported = i; exported = e })
  unfolding paths_listed
  paths-listed e f = sym (follow-goes _ e (follow-goes _ f refl))

  pub paths-delivered : {t u d y : List ℕ} {i e : ℕ} {r : ManifestTold} → PathsFound one t i → PathsFound two u e
      → Lays (manifest_by m (length (take i t)) (length (take e u)))
      (room_for (laid_bytes worlds references (take i t) (take e u)) (length d)) d r y
      → Delivers manifest_bytes manifest_told (paths_listed s m table5 table6 worlds references) d r y
  paths-delivered {t} {u} {d} {y} {i} {e} {r} f g k =
      let v : ManifestListing = record { manifest = m; worlds = worlds; references = references; imported = f.what; exported = g.what } in
      delivers manifest_bytes manifest_told (manifest_by m (length f.what) (length g.what)) v
      (paths-listed f.first g.first) refl (λ n p. refl)
      (subst (λ (l : List ℕ). Lays (manifest_by m (length f.what) (length l))
      (room_for (laid_bytes worlds references f.what l) (length d)) d r y)
      (paths-taken g)
      (subst (λ (l : List ℕ). Lays (manifest_by m (length l) (length (take e u)))
      (room_for (laid_bytes worlds references l (take e u)) (length d)) d r y)
      (paths-taken f) k))

-- ---- a manifest that was read, with tables at the limits
pub record ManifestFound (s : List ℕ) (l : ManifestLent) (m : Manifest) : Type 0 where
  pub what : State
  pub first : manifest_at s manifest_limits ≡ accepted what
  pub is : m ≡ manifest_of what
  pub held : ManifestHolds l manifest_limits what

module _ (s : List ℕ) {l : ManifestLent} {r : Result Manifest Refusal} (h : ManifestIs manifest_limits (manifest_at s manifest_limits) l
    (said_manifest r)) where
  pub manifest-refused : {why : Refusal} → r ≡ Err why → manifest_listed s ≡ refused_by why
  unfolding manifest_listed
  manifest-refused e = sym (follow-stops _ (first-refused (manifest_at s manifest_limits) manifest_of
      (sym h.answer-is ∙ ap said_manifest e)))

  pub manifest-found : {m : Manifest} → r ≡ Ok m → ManifestFound s l m
  unfolding manifest_held
  manifest-found {m} e =
      let f = followed (manifest_at s manifest_limits) (λ t. accepted (manifest_of t)) (sym h.answer-is ∙ ap said_manifest e) in
      record {
        what = f.what;
        first = f.first;
        is = one_value (sym f.then);
        held = subst (λ (x : Said State). ManifestHolds l manifest_limits (manifest_held x)) f.first h.tables-are;
      }

module _ {s : List ℕ} {l : ManifestLent} {m : Manifest} (q : ManifestFound s l m) where
  abbrev found : State
  found = q.what

  many-worlds : m.worlds ≡ length found.worlds
  unfolding manifest_of known_of
  many-worlds = ap (λ (v : Manifest). v.worlds) q.is

  many-references : m.references ≡ length found.references
  unfolding manifest_of known_of
  many-references = ap (λ (v : Manifest). v.references) q.is

  pub manifest-counted : length l.worlds ≤ full_cells 5 → length l.references ≤ full_cells 6
      → ManifestCounted m l.worlds l.references
  manifest-counted a b =
      record {
        worlds-in = rows_inside world_cells (width 5) world-wide (full_cells 5) found.worlds q.held.worlds-are many-worlds;
        references-in = rows_inside reference_cells (width 6) reference-wide (full_cells 6) found.references
            q.held.references-are many-references;
        worlds-few = a;
        references-few = b;
      }

  pub manifest-listed : paths_listed s m l.worlds l.references (worlds_in m l.worlds) (references_in m l.references)
      ≡ manifest_listed s
  unfolding manifest_listed
  manifest-listed =
      let w : List ℕ = cells world_cells found.worlds in
      let u : List ℕ = cells reference_cells found.references in
      ap (λ (x : List ℕ). paths_listed s m l.worlds l.references x (references_in m l.references))
      (rows_taken world_cells (width 5) world-wide (full_cells 5) found.worlds q.held.worlds-are many-worlds)
      ∙ ap (λ (x : List ℕ). paths_listed s m l.worlds l.references w x)
      (rows_taken reference_cells (width 6) reference-wide (full_cells 6) found.references q.held.references-are many-references)
      ∙ ap (λ (x : List ℕ). paths_listed s m x l.references w u) q.held.worlds-are
      ∙ ap (λ (x : List ℕ). paths_listed s m (laid (full_cells 5) w) x w u) q.held.references-are
      ∙ ap (λ (v : Manifest). paths_listed s v (laid (full_cells 5) w) (laid (full_cells 6) u) w u) q.is
      ∙ follow-goes _ q.first refl

  pub manifest-delivered : {d y : List ℕ} {r : ManifestTold}
      → Delivers manifest_bytes manifest_told
      (paths_listed s m l.worlds l.references (worlds_in m l.worlds) (references_in m l.references)) d r y
      → Delivers manifest_bytes manifest_told (manifest_listed s) d r y
  manifest-delivered {d} {y} {r} k = subst (λ (x : Said ManifestListing). Delivers manifest_bytes manifest_told x d r y) manifest-listed k
