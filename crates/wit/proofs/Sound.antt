-- What holds of all that the reader accepts: each line keeps it. Assumes nothing.
use Rattle.std.specs.Prelude.{Option, Some, None, is_some}
use Rattle.std.proofs.lemmas.Option.{same_Some, none-some}
use Prim.Native.Nat.{ℕ, zero, suc, ◌+◌, ◌≤◌, ◌<◌}
use native.Mathlib.Omega.{arith}
use mathlib.Core.Path.{◌≡◌, refl, ap, subst}
use mathlib.Core.Bool.{Bool, true, false}
use mathlib.Core.List.{List, [], ◌∷◌, ◌++◌}
use lib.Dec.{eqb, ltb}
use lib.ListN.{length, drop, length-append}
use borrow.Author.Tests.{ltb-true, eqb-false}
use Rattle.refusal.specs.Pick.{pick}
use Rattle.refusal.specs.Said.{Said, accepted, refused, Got, got, spot}
use Rattle.refusal.specs.declared.Part.{Part}
use Rattle.text.specs.Lines.{line_step}
use Rattle.table.specs.Shape.{capacity_in}
use Rattle.refusal.specs.Each.{Each, each_nil, each-cons}
use Rattle.table.proofs.Giving.{Gives, Of, gives-done, gives-stop, gives-follow, gives-onward, gives-from}
use Rattle.text.specs.Whole.{whole_text}
use Rattle.wit.specs.Line.{manifest_directive}
use Rattle.refusal.specs.Pick.{one_if}
use Rattle.wit.specs.Manifest.{State, ManifestSizes, start, on_next, with_package, with_world, world_closed, row_of, referred, shut_at}
use Rattle.wit.specs.Manifest.{close_at, open_at, refer_at, obey_at, line_piece, line_at, lines_at, manifest_at}
use Rattle.wit.specs.Sound.{Clean, MarkClean, WorldOk, ReferenceOk, Ascends, ManifestOk, ManifestRowsSound}
use Rattle.wit.specs.declared.line.Directive.{Directive}
use Rattle.wit.specs.declared.line.Directive.TheVariants.{Blank, Package, World, Close, Refer, Brace, Other}
use Rattle.wit.specs.declared.rows.Reference.{Reference}
use Rattle.wit.proofs.Parts.{AllClean, mark-none, mark_set, directive-clean}

-- ---- lists that grow at their end
each_more : {E : Type 0} (P : E → Type 0) (es : List E) (e : E) → Each P es → P e → Each P (es ++ (e ∷ []))
each_more P [] e each_nil h = each-cons h each_nil
each_more P (x ∷ es) e (each-cons p a) h = each-cons p (each_more P es e a h)

each-as : {E : Type 0} {P Q : E → Type 0} → ((e : E) → P e → Q e) → (es : List E) → Each P es → Each Q es
each-as f [] each_nil = each_nil
each-as f (x ∷ es) (each-cons p a) = each-cons (f x p) (each-as f es a)

ascends-more : (rs : List Reference) (r : Reference) → Ascends rs → Each (λ q. q.world ≤ r.world) rs → Ascends (rs ++ (r ∷ []))
ascends-more [] r a h = (each_nil, tt)
ascends-more (x ∷ rs) r a (each-cons p h) = (each_more (λ q. x.world ≤ q.world) rs r a.0 p, ascends-more rs r a.1 h)

one-small : (b : Bool) → one_if b ≤ 1
one-small true = omega arith
one-small false = omega arith

positive : (n : ℕ) → (n ≡ 0 → ⊥) → 0 < n
positive zero f = absurd (f refl)
positive (suc n) f = omega arith

-- ---- what holds after some lines
-- an open world has a name
pub record OpenOk (s : List ℕ) (m : Option Part) : Type 0 where
  pub present : (p : Part) → m ≡ Some p → WorldOk s p

module _ (s : List ℕ) (z : ManifestSizes) where
  pub record Kept (t : State) : Type 0 where
    pub package-clean : MarkClean s t.pack
    pub open-ok : OpenOk s t.world
    pub worlds-ok : Each (WorldOk s) t.worlds
    pub worlds-few : length t.worlds ≤ capacity_in 5 z.worlds
    pub references-ok : Each (ReferenceOk s (length t.worlds + one_if (is_some t.world))) t.references
    pub references-few : length t.references ≤ capacity_in 6 z.references
    pub worlds-ascend : Ascends t.references

  -- and no world is open
  pub record Shut (t : State) : Type 0 where
    pub kept : Kept t
    pub none : t.world ≡ None

  none_open : OpenOk s None
  none_open = record { present = λ p e. absurd (none-some p e) }

  kept-start : Kept start
  unfolding start
  kept-start =
      record {
        package-clean = mark-none;
        open-ok = none_open;
        worlds-ok = each_nil;
        worlds-few = omega arith;
        references-ok = each_nil;
        references-few = omega arith;
        worlds-ascend = tt;
      }

  kept_next : (t : State) → Kept t → Kept (on_next t)
  kept_next t h =
      record {
        package-clean = h.package-clean;
        open-ok = h.open-ok;
        worlds-ok = h.worlds-ok;
        worlds-few = h.worlds-few;
        references-ok = h.references-ok;
        references-few = h.references-few;
        worlds-ascend = h.worlds-ascend;
      }

  -- a reference that points below n points below any larger number
  ok-more : (n m : ℕ) → n ≤ m → (r : Reference) → ReferenceOk s n r → ReferenceOk s m r
  ok-more n m h r o =
      record { world-in = omega (arith, o.world-in); path-clean = o.path-clean; signature-clean = o.signature-clean }

  -- ---- a world closes
  kept-closed : (name : Part) (t : State) → Kept t → t.world ≡ Some name → length t.worlds < capacity_in 5 z.worlds
      → Shut (world_closed name t)
  kept-closed name t h g f =
      let n = length-append t.worlds (name ∷ []) in
      let o : one_if (is_some t.world) ≡ 1 = ap (λ (m : Option Part). one_if (is_some m)) g in
      record {
        kept = record {
          package-clean = h.package-clean;
          open-ok = none_open;
          worlds-ok = each_more (WorldOk s) t.worlds name h.worlds-ok (h.open-ok.present name g);
          worlds-few = omega (arith, n);
          references-ok = each-as (ok-more _ _ (omega (arith, n, o))) t.references h.references-ok;
          references-few = h.references-few;
          worlds-ascend = h.worlds-ascend;
        };
        none = refl;
      }

  close-keeps : (next : ℕ) (t : State) → Kept t → Gives (Of Shut) (close_at z next t)
  unfolding close_at Of
  close-keeps next t h = by t.world refl where
    put : (name : Part) (b : Bool) → ltb (length t.worlds) (capacity_in 5 z.worlds) ≡ b → t.world ≡ Some name
        → Gives (Of Shut) (pick b (accepted (got (world_closed name t) next)) (refused 13 (spot 5)))
    put name true e g = gives-done (Of Shut) (got (world_closed name t) next) (kept-closed name t h g (ltb-true _ _ e))
    put name false e g = gives-stop (Of Shut) 13 (spot 5)

    by : (m : Option Part) → t.world ≡ m → Gives (Of Shut) (shut_at z next t m)
    by (Some name) g = put name (ltb (length t.worlds) (capacity_in 5 z.worlds)) refl g
    by None g = gives-done (Of Shut) (got t next) (record { kept = h; none = g })

  -- ---- a world opens
  kept-opened : (name : Part) (u : State) → Shut u → Clean s name → 0 < name.len → Kept (with_world name u)
  kept-opened name u h c n =
      record {
        package-clean = h.kept.package-clean;
        open-ok = record { present = λ p e. subst (WorldOk s) (same_Some name p e) (record { name-clean = c; named = n }) };
        worlds-ok = h.kept.worlds-ok;
        worlds-few = h.kept.worlds-few;
        references-ok =
            each-as (ok-more _ _ (omega (arith, ap (λ (m : Option Part). one_if (is_some m)) h.none))) u.references h.kept.references-ok;
        references-few = h.kept.references-few;
        worlds-ascend = h.kept.worlds-ascend;
      }

  close-shut : (next : ℕ) (t : State) → Kept t → (u : State) (at : ℕ) → close_at z next t ≡ accepted (got u at) → Shut u
  unfolding Gives Of
  close-shut next t h u at e = close-keeps next t h (got u at) e

  open-keeps : (name : Part) (next : ℕ) (t : State) → Kept t → Clean s name → Gives (Of Kept) (open_at z name next t)
  unfolding open_at Of
  open-keeps name next t h c =
      gives-onward (Of Kept) (close_at z next t) _ (λ u at e. by u at (close-shut next t h u at e) (eqb name.len 0) refl) where
        by : (u : State) (at : ℕ) → Shut u → (b : Bool) → eqb name.len 0 ≡ b
            → Gives (Of Kept) (pick b (refused 10 (spot u.line)) (accepted (got (with_world name u) at)))
        by u at o true e = gives-stop (Of Kept) 10 (spot u.line)
        by u at o false e =
            gives-done (Of Kept) (got (with_world name u) at) (kept-opened name u o c (positive name.len (eqb-false name.len 0 e)))

  -- ---- a reference
  kept-referred : (t : State) (export : Bool) (path : Part) (signature : Option Part) → Kept t → is_some t.world ≡ true → Clean s path
      → MarkClean s signature → length t.references < capacity_in 6 z.references
      → Kept (referred t (row_of t export path signature))
  kept-referred t export path signature h g c m f =
      let r = row_of t export path signature in
      let o : one_if (is_some t.world) ≡ 1 = ap one_if g in
      record {
        package-clean = h.package-clean;
        open-ok = h.open-ok;
        worlds-ok = h.worlds-ok;
        worlds-few = h.worlds-few;
        references-ok =
            each_more (ReferenceOk s (length t.worlds + one_if (is_some t.world))) t.references r h.references-ok
            (record { world-in = omega (arith, o); path-clean = c; signature-clean = m });
        references-few = omega (arith, length-append t.references (r ∷ []));
        worlds-ascend =
            ascends-more t.references r h.worlds-ascend
            (each-as (λ q k. omega (arith, k.world-in, o)) t.references h.references-ok);
      }

  -- ---- a line
  inside-keeps : (b : Bool) (x y : Said (Got State)) → (b ≡ true → Gives (Of Kept) x) → (b ≡ false → Gives (Of Kept) y)
      → Gives (Of Kept) (pick b x y)
  inside-keeps true x y p q = p refl
  inside-keeps false x y p q = q refl

  shut-kept : (x : Said (Got State)) → Gives (Of Shut) x → Gives (Of Kept) x
  unfolding Gives Of
  shut-kept x h (got u at) e = (h (got u at) e).kept

  obey-keeps : (d : Directive) (next : ℕ) (t : State) → AllClean s d → Kept t → Gives (Of Kept) (obey_at z d next t)
  unfolding obey_at Of refer_at
  obey-keeps Blank next t c h = gives-done (Of Kept) (got t next) h
  obey-keeps (Package p) next t c h =
      inside-keeps (is_some t.world) _ _ (λ g. gives-stop (Of Kept) 9 (spot t.line))
      (λ g. gives-done (Of Kept) (got (with_package p t) next) (record {
        package-clean = mark_set c;
        open-ok = h.open-ok;
        worlds-ok = h.worlds-ok;
        worlds-few = h.worlds-few;
        references-ok = h.references-ok;
        references-few = h.references-few;
        worlds-ascend = h.worlds-ascend;
      }))
  obey-keeps (World p) next t c h = open-keeps p next t h c
  obey-keeps Close next t c h =
      inside-keeps (is_some t.world) _ _ (λ g. shut-kept _ (close-keeps next t h)) (λ g. gives-stop (Of Kept) 11 (spot t.line))
  obey-keeps (Refer export path signature) next t c h =
      inside-keeps (is_some t.world) _ _
      (λ g. inside-keeps (ltb (length t.references) (capacity_in 6 z.references)) _ _
      (λ f. gives-done (Of Kept) (got (referred t (row_of t export path signature)) next)
      (kept-referred t export path signature h g c.0 c.1 (ltb-true _ _ f)))
      (λ f. gives-stop (Of Kept) 13 (spot 6)))
      (λ g. gives-stop (Of Kept) 12 (spot t.line))
  obey-keeps Brace next t c h =
      inside-keeps (is_some t.world) _ _ (λ g. gives-done (Of Kept) (got t next) h) (λ g. gives-stop (Of Kept) 6 (spot t.line))
  obey-keeps Other next t c h = gives-stop (Of Kept) 6 (spot t.line)

  line-keeps : (at : ℕ) (t : State) → Kept t → Gives (Of Kept) (line_at s z at t)
  unfolding line_at
  line-keeps at t h = obey-keeps (manifest_directive (line_piece s at)) (at + line_step (drop at s)) (on_next t) (directive-clean s at)
      (kept_next t h)

  -- ---- the whole
  lines_keep : Gives (Of Shut) (lines_at s z)
  unfolding lines_at Of Gives
  lines_keep =
      gives-onward (Of Shut) _ _ (λ t at e. close-keeps at t (gives-from Kept (line_at s z) line-keeps s 0 start kept-start (got t at) e))

  in-the-end : (t : State) → Shut t → ManifestOk s z t
  in-the-end t h =
      let o : one_if (is_some t.world) ≡ 0 = ap (λ (m : Option Part). one_if (is_some m)) h.none in
      record {
        package-clean = h.kept.package-clean;
        worlds-ok = h.kept.worlds-ok;
        worlds-few = h.kept.worlds-few;
        references-ok = each-as (ok-more _ _ (omega (arith, o))) t.references h.kept.references-ok;
        references-few = h.kept.references-few;
        worlds-ascend = h.kept.worlds-ascend;
      }

last-shut : (s : List ℕ) (z : ManifestSizes) (u : State) (at : ℕ) → lines_at s z ≡ accepted (got u at) → Shut s z u
unfolding Gives Of
last-shut s z u at k = lines_keep s z (got u at) k

pub rows-sound : ManifestRowsSound
unfolding manifest_at Of Gives
rows-sound s z t e =
    gives-follow (ManifestOk s z) (whole_text s) _ (λ ok q.
    gives-onward (ManifestOk s z) (lines_at s z) _ (λ u at k.
    gives-done (ManifestOk s z) u (in-the-end s z u (last-shut s z u at k)))) t e
