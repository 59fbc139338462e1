-- The definition `u_n` accepts exactly what the specification's grammar does, with its value. Assumes nothing.
use Prim.Native.Nat.{ℕ, suc, ◌+◌, ◌-◌, ◌*◌, ◌%◌, ◌^◌, ◌≤◌, ◌<◌, min}
use native.Mathlib.Nat.{lt_of_lt_of_le, mod-eq_of_lt, min-eq_left, min-eq_right, add-mul}
use native.Mathlib.Omega.{arith}
use mathlib.Core.Path.{◌≡◌, refl, sym, ◌∙◌, ap, subst₂}
use mathlib.Core.Bool.{Bool, true, false}
use mathlib.Core.List.{List, [], ◌∷◌}
use borrow.Author.Tests.{lt-ltb, le-ltb, le-leb, ltb-true, ltb-false, leb-true}
use lib.Dec.{ltb, leb}
use lib.Pow.{pow_mono, pow-add, pow_pos}
use lib.Arith.{digits_lt, digits_mod}
use lib.ListN.{get_or, drop}
use lib.IntN.{ℤ, pos, ◌-ℤ◌}
use Rattle.bits.proofs.Integers.{diff-eq}
use Rattle.refusal.specs.Pick.{pick}
use Rattle.refusal.specs.Said.{accepted, refused, got, onward, offset}
use Rattle.refusal.proofs.Following.{never}
use Rattle.leb.specs.Grammar.{U, last_u, more_u, S, plus_s, minus_s, more_s}
use Rattle.leb.specs.Groups.{Out, value, ends, overlong, oversize, grown, spent, u_n, s_n, twos}
use Rattle.leb.specs.Reads.{told_at, narrowed, uleb_at, u32_at, sleb_at}

pub accepts : {N v k : ℕ} {l : List ℕ} → U N l v k → u_n N l ≡ value v k
unfolding u_n grown
accepts (last_u {N = N} {n = n} a b) = simp (lt-ltb n 128 a, lt-ltb n (2 ^ N) b)
accepts (more_u {N = N} {n = n} a b r) = simp (le-ltb n 128 a, lt-ltb 7 N b, accepts r)

pub never_ends : {X : Type 0} {v : X} (j k : ℕ) → ends j ≡ value v k → ⊥
never_ends j k e = let z : ◌≡◌ {A = ℕ} 0 1 = cc in omega arith

never-long : {X : Type 0} {v : X} (k : ℕ) → overlong ≡ value v k → ⊥
never-long k e = let z : ◌≡◌ {A = ℕ} 0 1 = cc in omega arith

never-big : {X : Type 0} {v : X} (k : ℕ) → oversize ≡ value v k → ⊥
never-big k e = let z : ◌≡◌ {A = ℕ} 0 1 = cc in omega arith

-- an outcome that has a value had one before it grew
pub grown-value : {X : Type 0} (f : X → X) (i : ℕ) (o : Out X) (v : X) (k : ℕ) → grown f i o ≡ value v k
    → (m : X) × (j : ℕ) × (o ≡ value m j) × (f m ≡ v) × (i + j ≡ k)
unfolding grown
grown-value f i (value m j) v k e = (m, j, refl, cc, cc)
grown-value f i (ends j) v k e = absurd (never_ends (i + j) k e)
grown-value f i overlong v k e = absurd (never-long k e)
grown-value f i oversize v k e = absurd (never-big k e)

pub spent-none : {X : Type 0} (l : List ℕ) (v : X) (k : ℕ) → spent l ≡ value v k → ⊥
unfolding spent
spent-none [] v k e = never_ends 0 k e
spent-none (n ∷ l) v k e = never-long k e

module _ (N n : ℕ) (l : List ℕ) (v k : ℕ) (rest : (m j : ℕ) → u_n (N - 7) l ≡ value m j → U (N - 7) l m j)
    (e : u_n N (n ∷ l) ≡ value v k) where
  short : n < 128 → (t : Bool) → ltb n (2 ^ N) ≡ t → U N (n ∷ l) v k
  unfolding u_n
  short h true t =
      let p : value n 1 ≡ value v k = simp (lt-ltb n 128 h, t) at e in
      let a : n ≡ v = cc in
      let b : 1 ≡ k = cc in
      subst₂ (λ x y. U N (n ∷ l) x y) a b (last_u h (ltb-true n (2 ^ N) t))
  short h false t = absurd (never-big k (simp (lt-ltb n 128 h, t) at e))

  over : 128 ≤ n → ltb 7 N ≡ false → (f : Bool) → ltb (n - 128) (2 ^ N) ≡ f → ⊥
  unfolding u_n
  over h t true f =
      let g = grown-value (λ m. 128 * m + (n - 128)) 1 (spent l) v k (simp (le-ltb n 128 h, t, f) at e) in
      spent-none l g.0 g.1 g.2
  over h t false f = never-big k (simp (le-ltb n 128 h, t, f) at e)

  long : 128 ≤ n → (t : Bool) → ltb 7 N ≡ t → U N (n ∷ l) v k
  unfolding u_n
  long h true t =
      let g = grown-value (λ m. 128 * m + (n - 128)) 1 (u_n (N - 7) l) v k (simp (le-ltb n 128 h, t) at e) in
      subst₂ (λ x y. U N (n ∷ l) x y) g.3 g.4 (more_u h (ltb-true 7 N t) (rest g.0 g.1 g.2))
  long h false t = absurd (over h t (ltb (n - 128) (2 ^ N)) refl)

  both : (t : Bool) → ltb n 128 ≡ t → U N (n ∷ l) v k
  both true t = short (ltb-true n 128 t) (ltb n (2 ^ N)) refl
  both false t = long (ltb-false n 128 t) (ltb 7 N) refl

pub only : (N : ℕ) (l : List ℕ) (v k : ℕ) → u_n N l ≡ value v k → U N l v k
unfolding u_n
only N [] v k e = absurd (never_ends 0 k e)
only N (n ∷ l) v k e = both N n l v k (λ m j. only (N - 7) l m j) e (ltb n 128) refl

-- `uleb128` accepts exactly the u64 of the specification, with their values
pub u64-read : (s : List ℕ) (at v k : ℕ) → U 64 (drop at s) v k → uleb_at s at ≡ accepted (got v (at + k))
unfolding uleb_at told_at
u64-read s at v k r = rw (accepts r)

-- a number that was told was there
pub told-value : {X : Type 0} (at : ℕ) (o : Out X) {v : X} {d : ℕ} → told_at at o ≡ accepted (got v d) → (k : ℕ) × (o ≡ value v k) ×
    (d ≡ at + k)
unfolding told_at
told-value at (value w k) e = (k, cc, cc)
told-value at (ends k) e = absurd (never e)
told-value at overlong e = absurd (never e)
told-value at oversize e = absurd (never e)

pub u64-only : (s : List ℕ) (at v d : ℕ) → uleb_at s at ≡ accepted (got v d) → (k : ℕ) × U 64 (drop at s) v k × (d ≡ at + k)
unfolding uleb_at
u64-only s at v d e = let t = told-value at (u_n 64 (drop at s)) e in (t.0, only 64 (drop at s) v t.0 t.1, t.2)

-- a number that fits a u32 is that number
pub narrow-only : (w e v d : ℕ) → narrowed w e ≡ accepted (got v d) → (w ≡ v) × (e ≡ d) × (w ≤ 4294967295)
unfolding narrowed
narrow-only w e v d h = go (leb w 4294967295) refl h where
  go : (b : Bool) → leb w 4294967295 ≡ b → pick b (accepted (got w e)) (refused 19 (offset e)) ≡ accepted (got v d) → (w ≡ v) × (e ≡ d) ×
      (w ≤ 4294967295)
  go true t f = (cc, cc, leb-true w 4294967295 t)
  go false t f = absurd (never f)

-- what is a u_n is a u_m for every larger M, with the same value
pub wider : {N M v k : ℕ} {l : List ℕ} → N ≤ M → U N l v k → U M l v k
wider h (last_u a b) = last_u a (lt_of_lt_of_le b (pow_mono h))
wider {M = M} h (more_u a b r) = more_u {N = M} a (lt_of_lt_of_le b h) (wider {M = M - 7} (omega arith) r)

-- and its value is below 2 ^ N, where the list is of bytes
pub below : {N v k : ℕ} {l : List ℕ} → ((i : ℕ) → get_or l i 0 < 256) → U N l v k → v < 2 ^ N
below bytes (last_u a b) = b
below bytes (more_u {N = N} {n = n} {m = m} a b r) =
    let h = below (λ i. bytes (suc i)) r in
    let f : n - 128 < 128 = omega (arith, bytes 0) in
    let e : N - 7 + 7 ≡ N = omega arith in
    let p : 2 ^ (N - 7) * 128 ≡ 2 ^ N = sym (pow-add 2 (N - 7) 7) ∙ ap (λ (x : ℕ). 2 ^ x) e in
    omega (arith, digits_lt h f, p)

-- so every u32 of the specification is read as its value
pub u32-read : (s : List ℕ) (at v k : ℕ) → ((i : ℕ) → get_or (drop at s) i 0 < 256) → U 32 (drop at s) v k
    → u32_at s at ≡ accepted (got v (at + k))
unfolding u32_at uleb_at told_at narrowed onward
u32-read s at v k bytes r = simp (accepts (wider {M = 64} (omega arith) r), le-leb v 4294967295 (omega (arith, below bytes r)))

twos_small : (N n : ℕ) → n < 64 → n < 2 ^ (N - 1) → twos (min N 7) n ≡ pos n
unfolding twos
twos_small N n a b = go (ltb N 7) refl
  where
    go : (t : Bool) → ltb N 7 ≡ t → twos (min N 7) n ≡ pos n
    go true t =
        let h = ltb-true N 7 t in
        let m : min N 7 ≡ N = min-eq_left (omega arith) in
        let e : n % 2 ^ N ≡ n = mod-eq_of_lt (lt_of_lt_of_le b (pow_mono {j = N} (omega arith))) in
        rw m (simp (e, lt-ltb n (2 ^ (N - 1)) b))
    go false t =
        let h = ltb-false N 7 t in
        let m : min N 7 ≡ 7 = min-eq_right h in
        let e : n % 128 ≡ n = mod-eq_of_lt (omega arith) in
        rw m (simp (e, lt-ltb n 64 a))

omega-pred : (N : ℕ) → 0 < N → N ≡ N - 1 + 1
omega-pred N h = omega arith

omega-seven : (N : ℕ) → N < 7 → 7 - N + N ≡ 7
omega-seven N h = omega arith

block : (j p : ℕ) → (2 ^ j - 1) * p + p ≡ 2 ^ j * p
block j p =
    let e : 2 ^ j - 1 + 1 ≡ 2 ^ j = omega (arith, pow_pos j) in
    omega (arith, add-mul (2 ^ j - 1) 1 p, ap (λ (x : ℕ). x * p) e)

twos-minus : (N n : ℕ) → 0 < N → 64 ≤ n → n < 128 → 128 ≤ n + 2 ^ (N - 1) → twos (min N 7) n ≡ pos n -ℤ pos 128
unfolding twos
twos-minus N n z a b c = go (ltb N 7) refl
  where
    go : (t : Bool) → ltb N 7 ≡ t → twos (min N 7) n ≡ pos n -ℤ pos 128
    go true t =
        let h = ltb-true N 7 t in
        let m : min N 7 ≡ N = min-eq_left (omega arith) in
        let w : 2 ^ N ≡ 2 ^ (N - 1) * 2 = ap (λ (x : ℕ). 2 ^ x) (omega-pred N z) ∙ pow-add 2 (N - 1) 1 in
        let y : 2 ^ (7 - N) * 2 ^ N ≡ 128 = sym (pow-add 2 (7 - N) N) ∙ ap (λ (x : ℕ). 2 ^ x) (omega-seven N h) in
        let q : (2 ^ (7 - N) - 1) * 2 ^ N + 2 ^ N ≡ 2 ^ (7 - N) * 2 ^ N = block (7 - N) (2 ^ N) in
        let r : n ≡ (2 ^ (7 - N) - 1) * 2 ^ N + (2 ^ N - (128 - n)) = omega arith in
        let e : n % 2 ^ N ≡ 2 ^ N - (128 - n) = ap (λ (x : ℕ). x % 2 ^ N) r ∙ digits_mod (2 ^ (7 - N) - 1) (omega (arith, pow_pos N)) in
        rw m (simp (e, le-ltb (2 ^ N - (128 - n)) (2 ^ (N - 1)) (omega arith)) (diff-eq (2 ^ N - (128 - n)) (2 ^ N) n 128 (omega arith)))
    go false t =
        let h = ltb-false N 7 t in
        let m : min N 7 ≡ 7 = min-eq_right h in
        let e : n % 128 ≡ n = mod-eq_of_lt b in
        rw m (simp (e, le-ltb n 64 a))

-- every s_n of the specification is read as its value
pub accepts_s : {N k : ℕ} {z : ℤ} {l : List ℕ} → S N l z k → s_n N l ≡ value z k
unfolding s_n grown
accepts_s (plus_s {N = N} {n = n} a b) = simp (lt-ltb n 128 (omega arith), twos_small N n a b)
accepts_s (minus_s {N = N} {n = n} z a b c) = simp (lt-ltb n 128 b, twos-minus N n z a b c)
accepts_s (more_s {N = N} {n = n} a b r) = simp (le-ltb n 128 a, lt-ltb 7 N b, accepts_s r)

pub s64-read : (s : List ℕ) (at k : ℕ) (z : ℤ) → S 64 (drop at s) z k → sleb_at s at ≡ accepted (got z (at + k))
unfolding sleb_at told_at
s64-read s at k z r = rw (accepts_s r)
