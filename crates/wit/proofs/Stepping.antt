-- Laws of a line obeyed: a world closed or opened, a reference added. Assumes nothing.
use Rattle.std.specs.Prelude.{Option, Some, None, is_some}
use Prim.Native.Nat.{ℕ, ◌+◌, ◌≤◌, ◌<◌}
use mathlib.Core.Path.{◌≡◌, refl, sym, ◌∙◌, ap, subst}
use mathlib.Core.Bool.{Bool, true, false}
use mathlib.Core.List.{List, [], ◌∷◌, ◌++◌}
use native.Mathlib.Omega.{arith}
use borrow.Author.Tests.{lt-ltb, le-ltb, eq-eqb, ne_eqb}
use lib.ListN.{length, length-append}
use mir.Val.{bool_byte}
use Rattle.refusal.specs.Pick.{pick}
use Rattle.refusal.specs.Said.{Said, accepted, refused, Got, got, spot, Place}
use Rattle.refusal.specs.declared.Part.{Part}
use Rattle.table.specs.Table.{laid, cells, put_row}
use Rattle.table.specs.Shape.{width, limit, capacity_in}
use Rattle.table.specs.Told.{ReaderTells, Passed, Ends}
use Rattle.table.proofs.Cells.{room_row}
use Rattle.table.proofs.Laws.{put-row-laid}
use Rattle.table.proofs.Telling.{tell-got, tell-stop, tell-after, tell-after-stop}
use Rattle.wit.specs.Line.{range_in}
use Rattle.wit.specs.declared.line.Directive.{Directive}
use Rattle.wit.specs.declared.line.Directive.TheVariants.{Blank, Package, World, Close, Refer, Brace, Other}
use Rattle.wit.specs.declared.rows.Reference.{Reference}
use Rattle.wit.specs.declared.rows.Known.{Known}
use Rattle.wit.specs.Manifest.{State, world_closed, row_of, referred, ManifestSizes, shut_at, close_at}
use Rattle.wit.specs.Manifest.{open_at, refer_at, obey_at}
use Rattle.refusal.specs.Pick.{one_if}
use Rattle.wit.specs.Manifest.{known_of, world_cells, reference_cells, lend_manifest, ManifestHolds, packaged, opened, Numbered}

world-wide : (r : Part) → length (world_cells r) ≡ width 5
unfolding world_cells
world-wide r = refl

reference-wide : (r : Reference) → length (reference_cells r) ≡ width 6
unfolding reference_cells
reference-wide r = refl

-- where an answer is an acceptance, its line
pub numbered : {n : ℕ} {a : Said (Got Known)} {k : Known} {d : ℕ} → Numbered n a → a ≡ accepted (got k d) → k.line ≡ n
unfolding Numbered
numbered h e = rw e at h

pub numbered-as : {n m : ℕ} (a : Said (Got Known)) → n ≡ m → Numbered n a → Numbered m a
numbered-as a e h = subst (λ (i : ℕ). Numbered i a) e h

pub ends-passed : (n at next : ℕ) (a : Said (Got Known)) → at < next → next ≤ n → Ends next a → Passed n at a
unfolding Ends Passed
ends-passed n at next (accepted (got v d)) h k e = (omega (arith, e), omega (arith, e))
ends-passed n at next (refused m p) h k e = tt

-- what is told of the case that a test picks
module _ {T A : Type 0} {f : T → A} {P : T → Type 0} (b : Bool) (x y : Said (Got T)) {a : Said (Got A)} where
  on-true : b ≡ true → ReaderTells f P x a → ReaderTells f P (pick b x y) a
  on-true e h = subst (λ (c : Bool). ReaderTells f P (pick c x y) a) (sym e) h

  on-false : b ≡ false → ReaderTells f P y a → ReaderTells f P (pick b x y) a
  on-false e h = subst (λ (c : Bool). ReaderTells f P (pick c x y) a) (sym e) h

-- the code's cells of a reference
byte-is : (b : Bool) → bool_byte b ≡ one_if b
byte-is true = refl
byte-is false = refl

pub cells-put : (table : List ℕ) (count : ℕ) (r : Reference) {x y : ℕ} {g : Bool} {p : Part} → x ≡ bool_byte r.export → y ≡ bool_byte g
    → g ≡ is_some r.signature → p ≡ range_in r.signature
    → put_row table count (r.world ∷ x ∷ r.path.from ∷ r.path.len ∷ y ∷ p.from ∷ p.len ∷ [])
    ≡ put_row table count (reference_cells r)
unfolding reference_cells
cells-put table count r e o g p = rw (e ∙ byte-is r.export, o ∙ byte-is _, g, p)

-- a state t, and the code's numbers k for it, with the tables w and l
module _ {z : ManifestSizes} {t : State} {k : Known} (c : k ≡ known_of t) {w l : List ℕ} (h : ManifestHolds (lend_manifest w l) z t)
    (next : ℕ) where
  world-is : {m : Option Part} → k.world ≡ m → t.world ≡ m
  unfolding known_of
  world-is e = sym (ap (λ (x : Known). x.world) c) ∙ e

  open_is : {b : Bool} → is_some k.world ≡ b → is_some t.world ≡ b
  unfolding known_of
  open_is e = sym (ap (λ (x : Known). is_some x.world) c) ∙ e

  line-is : k.line ≡ t.line
  unfolding known_of
  line-is = ap (λ (x : Known). x.line) c

  worlds-is : k.worlds ≡ length t.worlds
  unfolding known_of
  worlds-is = ap (λ (x : Known). x.worlds) c

  references-is : k.references ≡ length t.references
  unfolding known_of
  references-is = ap (λ (x : Known). x.references) c

  -- ---- a world closes
  module _ {m : Option Part} (e : k.world ≡ m) where
    shut_is : close_at z next t ≡ shut_at z next t m
    unfolding close_at
    shut_is = ap (shut_at z next t) (world-is e)

  pub close-none : k.world ≡ None → ReaderTells known_of (ManifestHolds (lend_manifest w l) z) (close_at z next t)
      (accepted (got k next))
  close-none e = rw (shut_is e) (tell-got t next refl c h)

  module _ {name : Part} (e : k.world ≡ Some name) where
    pub close-full : {P : State → Type 0} → capacity_in 5 z.worlds ≤ k.worlds
        → ReaderTells known_of P (close_at z next t) (refused 13 (spot 5))
    close-full m =
        let f : capacity_in 5 z.worlds ≤ length t.worlds = omega (arith, worlds-is) in
        tell-stop (rw (shut_is e, le-ltb _ _ f))

    pub close-put : (w1 : List ℕ) → k.worlds < capacity_in 5 z.worlds → w1 ≡ put_row w k.worlds (world_cells name)
        → ReaderTells known_of (ManifestHolds (lend_manifest w1 l) z) (close_at z next t)
        (accepted (got (record { line = k.line; pack = k.pack; world = None; worlds = k.worlds + 1; references = k.references }) next))
    unfolding known_of
    close-put w1 r p =
        let f : length t.worlds < capacity_in 5 z.worlds = omega (arith, worlds-is) in
        let n : k.worlds + 1 ≡ length (t.worlds ++ (name ∷ [])) = omega (arith, worlds-is, length-append t.worlds (name ∷ [])) in
        let put : w1 ≡ laid z.worlds (cells world_cells (t.worlds ++ (name ∷ []))) =
        p ∙ ap (λ (x : Known). put_row w x.worlds (world_cells name)) c
        ∙ ap (λ (x : List ℕ). put_row x (length t.worlds) (world_cells name)) h.worlds-are
        ∙ put-row-laid world_cells (width 5) world-wide z.worlds t.worlds name
        (room_row z.worlds (width 5) (limit 5) (length t.worlds) f) in
        rw (shut_is e) (on-true _ _ _ (lt-ltb _ _ f)
        (tell-got (world_closed name t) next refl (rw (n, c)) (record { worlds-are = put; references-are = h.references-are })))

  -- ---- a reference of the open world
  pub refer-full : {P : State → Type 0} (out : Bool) (path : Part) (sign : Option Part) → capacity_in 6 z.references ≤ k.references
      → ReaderTells known_of P (refer_at z out path sign next t) (refused 13 (spot 6))
  unfolding refer_at
  refer-full out path sign m =
      let f : capacity_in 6 z.references ≤ length t.references = omega (arith, references-is) in
      tell-stop (rw (le-ltb _ _ f))

  pub refer-put : (out : Bool) (path : Part) (sign : Option Part) (l1 : List ℕ) → k.references < capacity_in 6 z.references
      → l1 ≡ put_row l k.references (reference_cells (record { world = k.worlds; export = out; path = path; signature = sign }))
      → ReaderTells known_of (ManifestHolds (lend_manifest w l1) z) (refer_at z out path sign next t)
      (accepted (got
      (record { line = k.line; pack = k.pack; world = k.world; worlds = k.worlds; references = k.references + 1 }) next))
  unfolding refer_at known_of
  refer-put out path sign l1 r p =
      let f : length t.references < capacity_in 6 z.references = omega (arith, references-is) in
      let row = row_of t out path sign in
      let n : k.references + 1 ≡ length (t.references ++ (row ∷ [])) =
      omega (arith, references-is, length-append t.references (row ∷ [])) in
      let put : l1 ≡ laid z.references (cells reference_cells (t.references ++ (row ∷ []))) =
      p ∙ ap (λ (x : Known). put_row l x.references
      (reference_cells (record { world = x.worlds; export = out; path = path; signature = sign }))) c
      ∙ ap (λ (x : List ℕ). put_row x (length t.references) (reference_cells row)) h.references-are
      ∙ put-row-laid reference_cells (width 6) reference-wide z.references t.references row
      (room_row z.references (width 6) (limit 6) (length t.references) f) in
      on-true _ _ _ (lt-ltb _ _ f)
      (tell-got (referred t row) next refl (rw (n, c)) (record { worlds-are = h.worlds-are; references-are = put }))

  -- ---- a line, in a world and outside
  module _ (d : Directive) where
    pub obey-blank : d ≡ Blank → ReaderTells known_of (ManifestHolds (lend_manifest w l) z) (obey_at z d next t) (accepted (got k next))
    unfolding obey_at
    obey-blank e = rw e (tell-got t next refl c h)

    pub obey-other : {P : State → Type 0} → d ≡ Other → ReaderTells known_of P (obey_at z d next t) (refused 6 (spot k.line))
    unfolding obey_at
    obey-other e = rw (e, line-is) (tell-stop refl)

    module _ (g : is_some k.world ≡ true) where
      pub in-package : {P : State → Type 0} (p : Part) → d ≡ Package p
          → ReaderTells known_of P (obey_at z d next t) (refused 9 (spot k.line))
      unfolding obey_at
      in-package p e = rw (e, line-is, open_is g) (tell-stop refl)

      pub in-close : {P : State → Type 0} {a : Said (Got Known)} → d ≡ Close → ReaderTells known_of P (close_at z next t) a
          → ReaderTells known_of P (obey_at z d next t) a
      unfolding obey_at
      in-close e told = rw e (on-true _ _ _ (open_is g) told)

      pub in-refer : {P : State → Type 0} {a : Said (Got Known)} (out : Bool) (path : Part) (sign : Option Part) → d ≡ Refer out path sign
          → ReaderTells known_of P (refer_at z out path sign next t) a → ReaderTells known_of P (obey_at z d next t) a
      unfolding obey_at
      in-refer out path sign e told = rw e (on-true _ _ _ (open_is g) told)

      pub in-brace : d ≡ Brace → ReaderTells known_of (ManifestHolds (lend_manifest w l) z) (obey_at z d next t) (accepted (got k next))
      unfolding obey_at
      in-brace e = rw e (on-true _ _ _ (open_is g) (tell-got t next refl c h))

    module _ (g : is_some k.world ≡ false) where
      pub out-package : (p : Part) (m : Known) → d ≡ Package p → m ≡ packaged p k
          → ReaderTells known_of (ManifestHolds (lend_manifest w l) z) (obey_at z d next t) (accepted (got m next))
      unfolding obey_at known_of
      out-package p m e q =
          rw e (on-false _ _ _ (open_is g)
          (tell-got _ next refl (q ∙ ap (packaged p) c) (record { worlds-are = h.worlds-are; references-are = h.references-are })))

      pub out-close : {P : State → Type 0} → d ≡ Close → ReaderTells known_of P (obey_at z d next t) (refused 11 (spot k.line))
      unfolding obey_at
      out-close e = rw (e, line-is, open_is g) (tell-stop refl)

      pub out-refer : {P : State → Type 0} (out : Bool) (path : Part) (sign : Option Part) → d ≡ Refer out path sign
          → ReaderTells known_of P (obey_at z d next t) (refused 12 (spot k.line))
      unfolding obey_at
      out-refer out path sign e = rw (e, line-is, open_is g) (tell-stop refl)

      pub out-brace : {P : State → Type 0} → d ≡ Brace → ReaderTells known_of P (obey_at z d next t) (refused 6 (spot k.line))
      unfolding obey_at
      out-brace e = rw (e, line-is, open_is g) (tell-stop refl)

-- ---- a world opens, after what closing the one before came to
module _ (z : ManifestSizes) (t : State) (next : ℕ) {a : Said (Got Known)} {w l : List ℕ}
    (told : ReaderTells known_of (ManifestHolds (lend_manifest w l) z) (close_at z next t) a) (name : Part) where
  pub open-stop : {P : State → Type 0} {m : ℕ} {p : Place} → a ≡ refused m p → ReaderTells known_of P (open_at z name next t) (refused m p)
  unfolding open_at
  open-stop e = tell-after-stop _ told e

  module _ {n : Known} {d : ℕ} (e : a ≡ accepted (got n d)) where
    pub open-nameless : {P : State → Type 0} → name.len ≡ 0 → ReaderTells known_of P (open_at z name next t) (refused 10 (spot n.line))
    unfolding open_at
    open-nameless {P} q =
        tell-after _ told e (λ u x v h. rw (eq-eqb _ _ q) (tell-stop (ap (λ (i : ℕ). refused 10 (spot i)) (sym (line-is v h next)))))

    pub open-named : (m : Known) → (name.len ≡ 0 → ⊥) → m ≡ opened name n
        → ReaderTells known_of (ManifestHolds (lend_manifest w l) z) (open_at z name next t) (accepted (got m d))
    unfolding open_at known_of
    open-named m q r =
        tell-after _ told e (λ u x v h. rw (ne_eqb _ _ q)
        (tell-got _ d refl (r ∙ ap (opened name) v) (record { worlds-are = h.worlds-are; references-are = h.references-are })))

pub obey-world : (z : ManifestSizes) (t : State) (next : ℕ) {a : Said (Got Known)} {P : State → Type 0} (d : Directive) (p : Part)
    → d ≡ World p
    → ReaderTells known_of P (open_at z p next t) a → ReaderTells known_of P (obey_at z d next t) a
unfolding obey_at
obey-world z t next d p e told = rw e told
