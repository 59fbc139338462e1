-- What is put into a writer, one after another. Assumes nothing.
use Prim.Native.Nat.{ℕ, ◌+◌, ◌≤◌, ◌<◌}
use native.Mathlib.Omega.{arith}
use mathlib.Core.Bool.{Bool, true, false}
use mathlib.Core.List.{List, [], ◌++◌}
use mathlib.Core.Path.{◌≡◌, refl, ◌∙◌, subst}
use lib.ListN.{length}
use Rattle.std.specs.Prelude.{Ok, Err}
use Rattle.refusal.specs.declared.Refusal.TheVariants.{NoRoom}
use Rattle.output.specs.Bytes.{Wrote, FormedFrom, most}
use Rattle.output.specs.Writing.{Added}
use Rattle.output.specs.declared.bytes.Writer.{Writer}
use Rattle.output.proofs.ByteLaws.{wrote_none, wrote_then, form-full, form-done}

pub added_none : (a : Writer) → Added a [] a
added_none a = record { wrote = wrote_none a.out.now a.at a.go a.counted; same = refl }

pub added_then : {a b c : Writer} {w v : List ℕ} → Added a w b → Added b v c → Added a (w ++ v) c
added_then {a} {b} {c} {w} {v} f g = record {
  wrote = wrote_then f.wrote (subst (λ (g : Bool). Wrote b.out.now b.at g v c.at c.out.now) f.same g.wrote);
  same = g.same ∙ f.same;
}

-- what a writer says of the buffer that it was lent, once it is let go
pub lent_back : {a b : Writer} {w d x : List ℕ} {at : ℕ} {go : Bool} → Added a w b → (a.out.now ≡ d) × (a.at ≡ at) × (a.go ≡ go)
    → x ≡ b.out.now → Wrote d at go w b.at x
lent_back {a} {b} {w} {d} {x} {at} {go} f i o =
    rw (o, ← i.0, ← i.1, ← i.2) f.wrote

-- counted first, then written
module _ (w d : List ℕ) (at : ℕ) {a b : Writer} {x : List ℕ} (counted : Added a w b)
    (is : (a.out.now ≡ d) × (a.at ≡ at) × (a.go ≡ false)) (link : x ≡ b.out.now) (few : at + length w ≤ most)
  where
    pub counted_full : length x < b.at → FormedFrom at w d (Err (NoRoom b.at)) x
    counted_full h =
        let f : Wrote d at false w b.at x = lent_back counted is link in
        form-full w d at f few (omega (arith, f.long))

    pub counted_done : b.at ≤ length x → {e g : Writer} {y : List ℕ} → Added e w g → (e.out.now ≡ x) × (e.at ≡ at) × (e.go ≡ true)
        → y ≡ g.out.now → FormedFrom at w d (Ok g.at) y
    counted_done h written i o =
        let f : Wrote d at false w b.at x = lent_back counted is link in
        form-done w d at f few (omega (arith, f.long)) (lent_back written i o)
