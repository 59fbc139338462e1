-- The word of a slug, and the slug of a domain. Assumes nothing.
use mathlib.Core.Path.{◌≡◌, refl, sym, ap, ◌∙◌}
use mathlib.Core.Bool.{Bool, true, false}
use mathlib.Core.List.{List, [], ◌∷◌}
use Prim.Native.Nat.{ℕ, zero, suc, ◌≤◌, min}
use native.Mathlib.Omega.{arith}
use borrow.Author.Tests.{ltb-false}
use lib.Dec.{ltb}
use lib.ListN.{length, take, get_or-eq_default}
use Rattle.refusal.specs.Pick.{pick}
use Rattle.refusal.specs.Slug.{slug_of, padded, word_of}
use Rattle.refusal.specs.declared.Slug.{Slug}
use Rattle.domains.specs.Domain.{domain_number, found, numbered, nothing, just, slugs, slug}
use Rattle.domains.specs.declared.Domain.{Domain}
use Rattle.std.specs.Prelude.{Option, Some, None}

padded-word : (n : ℕ) (w : List ℕ) → length w ≤ n → take (length w) (padded n w) ≡ w
unfolding padded
padded-word n [] h = refl
padded-word zero (c ∷ w) h = absurd (omega arith)
padded-word (suc n) (c ∷ w) h = ap (◌∷◌ c) (padded-word n w (omega arith))

padded-long : (n : ℕ) (w : List ℕ) → length (padded n w) ≡ n
unfolding padded
padded-long zero w = refl
padded-long (suc n) [] = ap suc (padded-long n [])
padded-long (suc n) (c ∷ w) = ap suc (padded-long n w)

-- a slug holds this word
pub record SlugIs (v : List ℕ) (s : Slug) : Type 0 where
  pub word : word_of s ≡ v
  pub fits : s.len ≤ length s.bytes
  pub long : s.len ≡ length (word_of s)

-- a word of at most ten bytes is that of its slug
pub slug-is : (v : List ℕ) {s : Slug} → length v ≤ 10 → s ≡ slug_of v → SlugIs v s
unfolding slug_of
slug-is v h e =
    let m : min (length v) 10 ≡ length v = omega arith in
    let w = padded-word 10 v h in
    record { word = rw (e, m) w; fits = rw e (omega (arith, padded-long 10 v)); long = rw (e, m) (sym (ap length w)) }

-- ---- domains
pub slug-long : (d : ℕ) → length (slug d) ≤ 7
unfolding slug slugs
slug-long zero = omega arith
slug-long (suc zero) = omega arith
slug-long (suc (suc zero)) = omega arith
slug-long (suc (suc (suc zero))) = omega arith
slug-long (suc (suc (suc (suc zero)))) = omega arith
slug-long (suc (suc (suc (suc (suc zero))))) = omega arith
slug-long (suc (suc (suc (suc (suc (suc zero)))))) = omega arith
slug-long (suc (suc (suc (suc (suc (suc (suc d))))))) = omega arith

module _ (n : ℕ) {f : Option Domain} (e : found f ≡ numbered n) where
  number_is : {d : Domain} → f ≡ Some d → domain_number d ≡ n
  unfolding numbered
  number_is {d} q = by (ltb n 7) (sym (ap found q) ∙ e)
    where
      by : (t : Bool) → just (domain_number d) ≡ pick t (just n) nothing → domain_number d ≡ n
      by true z = cc
      by false z = absurd (let y : ◌≡◌ {A = ℕ} 0 1 = cc in omega arith)

  pub domain-is : {d : Domain} {w : Slug} → f ≡ Some d → w ≡ slug_of (slug (domain_number d)) → SlugIs (slug n) w
  domain-is {d} q r = rw (number_is q) at (slug-is (slug (domain_number d)) (omega (arith, slug-long (domain_number d))) r)

  -- a number that is no domain's has no slug
  pub domain-none : f ≡ None → [] ≡ slug n
  unfolding numbered slug slugs
  domain-none q = by (ltb n 7) refl (sym (ap found q) ∙ e)
    where
      by : (t : Bool) → ltb n 7 ≡ t → nothing ≡ pick t (just n) nothing → [] ≡ slug n
      by true k z = absurd (let y : ◌≡◌ {A = ℕ} 0 1 = cc in omega arith)
      by false k z = sym (get_or-eq_default slugs [] (ltb-false n 7 k))
