-- The names of a table's rows are read one after another: together they have no more bytes than the file. Assumes nothing.
use Prim.Native.Nat.{ℕ, zero, suc, ◌+◌, ◌≤◌, ◌%◌}
use native.Mathlib.Omega.{arith}
use mathlib.Core.Path.{◌≡◌}
use mathlib.Core.List.{List, [], ◌∷◌, ◌++◌}
use lib.ListN.{length}
use lib.Dec.{ltb, eqb}
use Rattle.refusal.specs.Sizes.{file_limit}
use Rattle.refusal.specs.Said.{Said, Got, got, onward, spot, kind_at}
use Rattle.refusal.proofs.Following.{relocated-got}
use Rattle.table.specs.Shape.{capacity_in}
use Rattle.table.specs.Entries.{entries_from}
use Rattle.table.specs.Walking.{walk_from}
use Rattle.table.proofs.Giving.{Gives, Of, gives-done, gives-stop, gives-pick, gives-onward, gives-from}
use Rattle.leb.specs.Reads.{part_bytes, byte_at, u32_at, name_at, counted_at}
use Rattle.leb.proofs.Bounds.{Ahead, byte-in, u32-in, counted-in, name_in}
use Rattle.wasm.specs.Entry.{limits_at, func_at, table_at, memory_at, global_at, desc_at, import_at, export_at}
use Rattle.wasm.specs.Rows.{imports_of, exports_of}
use Rattle.wasm.specs.Custom.{custom_at}
use Rattle.wasm.specs.Module.{Tables, Sizes, Inner, contents_at, add_section, section_at, header_at, no_tables, Parsed, module_at}
use Rattle.conform.specs.Sound.{total, import_size, export_size, Together, NamesTogether}
use Rattle.conform.proofs.Parts.{part_length}

-- ---- a read from `at` on goes on, and stays within s
abbrev Past : List ℕ → ℕ → {T : Type 0} → Got T → Type 0
Past s at (got v d) = Ahead s at d

join : {s : List ℕ} {a b d : ℕ} → Ahead s a b → Ahead s b d → Ahead s a d
join x y = record { past = omega (arith, x.past, y.past); in-s = y.in-s }

module _ (s : List ℕ) where
  limits-past : (at : ℕ) → Gives (Past s at) (limits_at s at)
  unfolding limits_at
  limits-past at =
      gives-onward (Past s at) (byte_at s at) _ (λ flag a e1.
      gives-onward (Past s at) (u32_at s a) _ (λ least b e2.
      let k = join (byte-in s at flag a e1) (u32-in s a least b e2).0 in
      gives-pick (Past s at) (eqb (flag % 2) 1) _ _
      (gives-onward (Past s at) (u32_at s b) _ (λ most d e3. gives-done (Past s at) _ (join k (u32-in s b most d e3).0)))
      (gives-done (Past s at) _ k)))

  desc-past : (kind k at : ℕ) → Gives (Past s at) (desc_at s kind k at)
  unfolding desc_at func_at table_at memory_at global_at Gives
  desc-past kind k at =
      gives-pick (Past s at) (eqb kind 0) _ _
      (gives-onward (Past s at) (u32_at s at) _ (λ index a e. gives-done (Past s at) _ (u32-in s at index a e).0))
      (gives-pick (Past s at) (eqb kind 1) _ _
      (gives-onward (Past s at) (byte_at s at) _ (λ element a e1.
      gives-onward (Past s at) (limits_at s a) _ (λ l b e2.
      gives-done (Past s at) _ (join (byte-in s at element a e1) (limits-past a (got l b) e2)))))
      (gives-pick (Past s at) (eqb kind 2) _ _
      (gives-onward (Past s at) (limits_at s at) _ (λ l a e. gives-done (Past s at) _ (limits-past at (got l a) e)))
      (gives-pick (Past s at) (eqb kind 3) _ _
      (gives-onward (Past s at) (byte_at s at) _ (λ type a e1.
      gives-onward (Past s at) (byte_at s a) _ (λ mutable b e2.
      gives-done (Past s at) _ (join (byte-in s at type a e1) (byte-in s a mutable b e2)))))
      (gives-stop (Past s at) 5 (kind_at kind k)))))

-- ---- an entry takes its names' bytes
abbrev Takes : List ℕ → {E : Type 0} → (E → ℕ) → ℕ → Got E → Type 0
Takes s size at (got v d) = (at + size v ≤ d) × (d ≤ length s)

module _ (s : List ℕ) (base : ℕ) where
  import-takes : (at : ℕ) → Gives (Takes s import_size at) (import_at s base at)
  unfolding import_at Gives
  import-takes at =
      gives-onward (Takes s import_size at) (name_at s at) _ (λ m a e1.
      gives-onward (Takes s import_size at) (name_at s a) _ (λ f b e2.
      gives-onward (Takes s import_size at) (byte_at s b) _ (λ kind d e3.
      gives-onward (Takes s import_size at) (desc_at s kind b d) _ (λ desc e e4.
      let x = name_in s at m a e1 in
      let y = name_in s a f b e2 in
      let z = join (byte-in s b kind d e3) (desc-past s kind b d (got desc e) e4) in
      gives-done (Takes s import_size at) _ (omega (arith, x.past, x.end, y.past, y.end, z.past), z.in-s)))))

  export-takes : (at : ℕ) → Gives (Takes s export_size at) (export_at s base at)
  unfolding export_at
  export-takes at =
      gives-onward (Takes s export_size at) (name_at s at) _ (λ p a e1.
      gives-onward (Takes s export_size at) (byte_at s a) _ (λ kind b e2.
      gives-onward (Takes s export_size at) (u32_at s b) _ (λ index d e3.
      let x = name_in s at p a e1 in
      let z = join (byte-in s a kind b e2) (u32-in s b index d e3).0 in
      gives-done (Takes s export_size at) _ (omega (arith, x.past, x.end, z.past), z.in-s))))

-- ---- a run of entries
total-last : {E : Type 0} (size : E → ℕ) (rs : List E) (r : E) → total size (rs ++ (r ∷ [])) ≡ total size rs + size r
unfolding total
total-last size [] r = omega arith
total-last size (x ∷ rs) r = omega (arith, total-last size rs r)

module _ (s : List ℕ) {E : Type 0} (size : E → ℕ) (read : ℕ → Said (Got E)) (takes : (at : ℕ) → Gives (Takes s size at) (read at))
    (tn room : ℕ) where
  -- after the rows that are there: what is added takes the bytes from `at` on
  abbrev Added : ℕ → List E → Got (List E) → Type 0
  Added at rows (got out e) = (total size out + at ≤ total size rows + e) × (e ≤ length s)

  entries-total : (n at : ℕ) (rows : List E) → at ≤ length s → Gives (Added at rows) (entries_from read tn room n at rows)
  unfolding entries_from Gives
  entries-total zero at rows h = gives-done (Added at rows) (got rows at) (omega arith, h)
  entries-total (suc n) at rows h =
      gives-onward (Added at rows) (read at) _ (λ v next e.
      let t = takes at (got v next) e in
      gives-pick (Added at rows) (ltb (length rows) room) _ _
      (λ y q. more v next y t (entries-total n next (rows ++ (v ∷ [])) t.1 y q)) (gives-stop (Added at rows) 13 (spot tn)))
    where
      more : (v : E) (next : ℕ) (y : Got (List E)) → (at + size v ≤ next) × (next ≤ length s) → Added next (rows ++ (v ∷ [])) y
          → Added at rows y
      more v next (got out e) t k = (omega (arith, t.0, k.0, total-last size rows v), k.1)

  run-total : Gives (Of (λ out. total size out ≤ length s)) (onward (u32_at s 0) (λ n at. entries_from read tn room n at []))
  unfolding Gives Of total
  run-total =
      gives-onward (Of (λ out. total size out ≤ length s)) (u32_at s 0) _ (λ n at e y q.
      within at y (entries-total n at [] (u32-in s 0 n at e).0.in-s y q))
    where
      within : (at : ℕ) (y : Got (List E)) → Added at [] y → Of (λ out. total size out ≤ length s) y
      within at (got out e) k = omega (arith, k.0, k.1)

-- ---- sections
unfoldable InnerTogether : ℕ → Inner → Type 0
InnerTogether n u = Together n u.tables

module _ (n : ℕ) (s : List ℕ) (fits : length s ≤ n) (base : ℕ) (z : Sizes) where
  contents-together : (id : ℕ) (t : Tables) → Together n t → Gives (Of (InnerTogether n)) (contents_at id s base z t)
  unfolding contents_at imports_of exports_of Gives Of InnerTogether
  contents-together id t h =
      gives-pick (Of (InnerTogether n)) (eqb id 0) _ _
      (gives-onward (Of (InnerTogether n)) (custom_at s base z.names t.names) _ (λ u e q.
      gives-done (Of (InnerTogether n)) _ (record { imports = h.imports; exports = h.exports })))
      (gives-pick (Of (InnerTogether n)) (eqb id 2) _ _
      (gives-onward (Of (InnerTogether n)) _ _ (λ rows e q.
      let k = run-total s import_size (import_at s base) (import-takes s base) 2 _ (got rows e) q in
      gives-done (Of (InnerTogether n)) _ (record { imports = omega (arith, k); exports = h.exports })))
      (gives-pick (Of (InnerTogether n)) (eqb id 7) _ _
      (gives-onward (Of (InnerTogether n)) _ _ (λ rows e q.
      let k = run-total s export_size (export_at s base) (export-takes s base) 3 _ (got rows e) q in
      gives-done (Of (InnerTogether n)) _ (record { imports = h.imports; exports = omega (arith, k) })))
      (gives-done (Of (InnerTogether n)) _ h)))

module _ (b : List ℕ) (z : Sizes) where
  section-together : (at : ℕ) (t : Tables) → Together (length b) t → Gives (Of (Together (length b))) (section_at b z at t)
  unfolding section_at add_section Gives Of InnerTogether
  section-together at t h =
      gives-onward (Of (Together (length b))) (byte_at b at) _ (λ id a e1.
      gives-onward (Of (Together (length b))) (counted_at b a) _ (λ p d e2.
      gives-onward (Of (Together (length b))) _ _ (λ u e e3.
      let w = counted-in b a p d e2 in
      let k = contents-together (length b) (part_bytes b p) (omega (arith, w.end, w.in-s, part_length b p)) p.from z id t h (got u e)
      (relocated-got p.from _ e3) in
      gives-pick (Of (Together (length b))) (ltb (length u.tables.sections) (capacity_in 1 z.sections)) _ _
      (gives-done (Of (Together (length b))) _ (record { imports = k.imports; exports = k.exports }))
      (gives-stop (Of (Together (length b))) 13 (spot 1)))))

  none-together : Together (length b) no_tables
  unfolding no_tables total
  none-together = record { imports = omega arith; exports = omega arith }

  unfoldable FileTogether : Parsed → Type 0
  FileTogether m = Together (length b) m.tables

  file-together : Gives FileTogether (module_at b z)
  unfolding module_at FileTogether Gives Of
  file-together =
      gives-pick FileTogether (ltb file_limit (length b)) _ _ (gives-stop FileTogether 14 (spot 0))
      (gives-onward FileTogether (header_at b) _ (λ v c e1.
      gives-onward FileTogether (walk_from (section_at b z) b c no_tables) _ (λ t d e2.
      gives-done FileTogether _ (gives-from (Together (length b)) (section_at b z) section-together b c no_tables none-together (got t d) e2))))

pub names-together : NamesTogether
unfolding Gives FileTogether
names-together b z m e = file-together b z m e
