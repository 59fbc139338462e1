-- Laws of the public reader: 14 first, the header, the sections, and zeros after a refusal. Assumes nothing.
use Prim.Native.Nat.{ℕ, ◌≤◌, ◌<◌}
use mathlib.Core.Path.{◌≡◌, refl, ◌∙◌, ap, subst}
use mathlib.Core.List.{List}
use borrow.Author.Tests.{lt-ltb, le-ltb}
use lib.ListN.{length}
use Rattle.refusal.specs.Said.{Said, accepted, refused, refused_by, follow, Got, got, onward, spot, Place}
use Rattle.refusal.specs.declared.Refusal.{Refusal}
use Rattle.refusal.specs.Sizes.{file_limit}
use Rattle.table.specs.Told.{ReaderTells}
use Rattle.table.specs.Walking.{walk_from}
use Rattle.table.proofs.Telling.{told-stop, told-got}
use Rattle.wasm.specs.declared.section.Counts.{Counts}
use Rattle.wasm.specs.declared.Module.{Module}
use Rattle.wasm.specs.Module.{counts_of, Sizes, Lent, Holds, no_tables, section_at, header_at, module_at, module_counted, module_of}
use Rattle.wasm.specs.Module.{tables_of, ModuleIs}

module _ (b : List ℕ) (z : Sizes) where
  pub module-long : (l : Lent) → file_limit < length b → Holds l z no_tables
      → ModuleIs (length b) z (module_at b z) l (refused 14 (spot 0))
  unfolding module_at tables_of follow
  module-long l h q = rw (lt-ltb _ _ h) (record { answer-is = refl; tables-are = q })

  stopped : (l : Lent) (m : ℕ) (p : Place) → module_at b z ≡ refused m p → Holds l z no_tables
      → ModuleIs (length b) z (module_at b z) l (refused m p)
  unfolding tables_of follow
  stopped l m p e h = rw e (record { answer-is = refl; tables-are = h })

  module _ (short : length b ≤ file_limit) where
    pub module-head : (l : Lent) (v w : Refusal) → header_at b ≡ refused_by w → v ≡ w → Holds l z no_tables
        → ModuleIs (length b) z (module_at b z) l (refused_by v)
    unfolding module_at onward
    module-head l v w e q h =
        let f : header_at b ≡ refused_by v = rw q e in
        let x : module_at b z ≡ refused_by v = rw (le-ltb _ _ short, f) in
        stopped l _ _ x h

    module _ (v at : ℕ) (head : header_at b ≡ accepted (got v at)) (z1 : Sizes) (same : z1 ≡ z) (l : Lent) {a : Said (Got Counts)}
        (walked : ReaderTells counts_of (Holds l z1) (walk_from (section_at b z1) b at no_tables) a) where
      here : ReaderTells counts_of (Holds l z) (walk_from (section_at b z) b at no_tables) a
      here = subst (λ (y : Sizes). ReaderTells counts_of (Holds l y) (walk_from (section_at b y) b at no_tables) a) same walked

      pub module-good : (n : Counts) (d : ℕ) (r : Module) → a ≡ accepted (got n d) → r ≡ module_counted v (length b) n
          → ModuleIs (length b) z (module_at b z) l (accepted r)
      unfolding module_at onward follow module_of tables_of
      module-good n d r q e =
          let o = told-got here q in
          let w : walk_from (section_at b z) b at no_tables ≡ accepted (got o.what d) = o.is in
          rw (le-ltb _ _ short, head, w) (record {
            answer-is = ap accepted
                (e ∙ ap (module_counted v (length b)) o.value);
            tables-are = o.held;
          })

      pub module-stop : (l1 : Lent) (m : ℕ) (p : Place) → a ≡ refused m p → Holds l1 z no_tables
          → ModuleIs (length b) z (module_at b z) l1 (refused m p)
      unfolding module_at onward
      module-stop l1 m p q h =
          let w : walk_from (section_at b z) b at no_tables ≡ refused m p = told-stop here q in
          let x : module_at b z ≡ refused m p = rw (le-ltb _ _ short, head, w) in
          stopped l1 m p x h
