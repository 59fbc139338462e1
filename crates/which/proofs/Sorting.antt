-- What the bytes of a number come to, by what each of them is. Assumes nothing.
use Prim.Native.Nat.{ℕ, zero, suc, ◌+◌, ◌-◌, ◌*◌, ◌^◌, ◌≤◌, ◌<◌}
use native.Mathlib.Nat.{lt_of_lt_of_le, le_of_suc-le-suc, not-suc-le-zero}
use native.Mathlib.Omega.{arith}
use mathlib.Core.Path.{◌≡◌, refl}
use mathlib.Core.Bool.{Bool, true, false}
use mathlib.Core.List.{List, [], ◌∷◌}
use borrow.Author.Tests.{lt-ltb, le-ltb, ltb-true, ltb-false}
use lib.Dec.{ltb}
use lib.IntN.{pos, ◌+ℤ◌, ◌*ℤ◌}
use lib.ListN.{length, get_or}
use lib.Pow.{pow_mono}
use Rattle.leb.specs.Groups.{Out, value, ends, overlong, oversize, grown, spent, u_n, s_n}
use Rattle.which.specs.Claims.{GoOn, low_seven}

-- an outcome of 7 * k + 1 bits, which are k + 1 bytes: the last of them fits or does not
pub data Comes {X : Type 0} (Fit Misfit : ℕ → Type 0) (k : ℕ) (l : List ℕ) : Out X → Type 0 where
  long : suc (suc k) ≤ length l → GoOn (suc k) l → Fit (get_or l k 0) → Comes Fit Misfit k l overlong
  large : suc k ≤ length l → GoOn k l → Misfit (get_or l k 0) → Comes Fit Misfit k l oversize
  short : {j : ℕ} → j ≡ length l → length l ≤ suc k → GoOn (length l) l → Fit (get_or l k 0) → Comes Fit Misfit k l (ends j)
  before : {v : X} {j i : ℕ} → i < k → i < length l → get_or l i 0 < 128 → Comes Fit Misfit k l (value v j)
  last : {v : X} {j : ℕ} → k < length l → get_or l k 0 < 128 → Fit (get_or l k 0) → Comes Fit Misfit k l (value v j)

-- a byte that goes on, then k more
goes_on : (k n : ℕ) (l : List ℕ) → 128 ≤ n → GoOn k l → GoOn (suc k) (n ∷ l)
goes_on k n l h g zero b = h
goes_on k n l h g (suc i) b = g i (le_of_suc-le-suc b)

none-goes : (l : List ℕ) → GoOn 0 l
none-goes l i b = absurd (not-suc-le-zero b)

module _ {X : Type 0} {Fit Misfit : ℕ → Type 0} (n : ℕ) (f : X → X) (h : 128 ≤ n) where
  -- after a byte that goes on
  after : {k : ℕ} {l : List ℕ} {o : Out X} → Comes Fit Misfit k l o → Comes Fit Misfit (suc k) (n ∷ l) (grown f 1 o)
  unfolding grown
  after {k} {l} (long t g q) = long (omega (arith, t)) (goes_on (suc k) n l h g) q
  after {k} {l} (large t g q) = large (omega (arith, t)) (goes_on k n l h g) q
  after {k} {l} (short {j = j} e t g q) = short {j = 1 + j} (omega (arith, e)) (omega (arith, t)) (goes_on (length l) n l h g) q
  after (before {i = i} b t q) = before {i = suc i} (omega (arith, b)) (omega (arith, t)) q
  after (last t s q) = last (omega (arith, t)) s q

  -- and no bits are left
  spent-after : (l : List ℕ) → Fit n → Comes Fit Misfit 0 (n ∷ l) (grown f 1 (spent l))
  unfolding grown spent
  spent-after [] q = short refl (omega arith) (goes_on 0 n [] h (none-goes [])) q
  spent-after (m ∷ l) q = long (omega arith) (goes_on 0 n (m ∷ l) h (none-goes (m ∷ l))) q

-- ---- unsigned: of the last byte's low seven bits one is left
abbrev pub Fits : ℕ → Type 0
Fits n = low_seven n ≤ 1

abbrev pub Exceeds : ℕ → Type 0
Exceeds n = 1 < low_seven n

low_small : (n : ℕ) → n < 128 → low_seven n ≡ n
low_small n h = rw (lt-ltb n 128 h)

low-large : (n : ℕ) → 128 ≤ n → low_seven n ≡ n - 128
low-large n h = rw (le-ltb n 128 h)

-- the last byte
tenth-byte : (n : ℕ) (l : List ℕ) → Comes Fits Exceeds zero (n ∷ l) (u_n 1 (n ∷ l))
unfolding u_n
tenth-byte n l = by (ltb n 128) refl where
  small : (t : Bool) → ltb n 2 ≡ t → n < 128 → Comes Fits Exceeds zero (n ∷ l) (u_n 1 (n ∷ l))
  small true t h = rw (lt-ltb n 128 h, t) (last (omega arith) h (omega (arith, low_small n h, ltb-true n 2 t)))
  small false t h = rw (lt-ltb n 128 h, t) (large (omega arith) (none-goes (n ∷ l)) (omega (arith, low_small n h, ltb-false n 2 t)))

  great : (t : Bool) → ltb (n - 128) 2 ≡ t → 128 ≤ n → Comes Fits Exceeds zero (n ∷ l) (u_n 1 (n ∷ l))
  great true t h =
      rw (le-ltb n 128 h, t) (spent-after n (λ m. 128 * m + (n - 128)) h l (omega (arith, low-large n h, ltb-true (n - 128) 2 t)))
  great false t h =
      rw (le-ltb n 128 h, t) (large (omega arith) (none-goes (n ∷ l)) (omega (arith, low-large n h, ltb-false (n - 128) 2 t)))

  by : (t : Bool) → ltb n 128 ≡ t → Comes Fits Exceeds zero (n ∷ l) (u_n 1 (n ∷ l))
  by true t = small (ltb n 2) refl (ltb-true n 128 t)
  by false t = great (ltb (n - 128) 2) refl (ltb-false n 128 t)

-- a byte before it
stops : (k n : ℕ) (l : List ℕ) → n < 128 → u_n (7 * suc k + 1) (n ∷ l) ≡ value n 1
unfolding u_n
stops k n l h =
    let w : n < 2 ^ (7 * suc k + 1) = lt_of_lt_of_le h (pow_mono {i = 7} {j = 7 * suc k + 1} (omega arith)) in
    rw (lt-ltb n 128 h, lt-ltb n (2 ^ (7 * suc k + 1)) w)

continues : (k n : ℕ) (l : List ℕ) → 128 ≤ n → u_n (7 * suc k + 1) (n ∷ l) ≡ grown (λ m. 128 * m + (n - 128)) 1 (u_n (7 * k + 1) l)
unfolding u_n
continues k n l h =
    let e : 7 * suc k + 1 - 7 ≡ 7 * k + 1 = omega arith in
    rw (le-ltb n 128 h, lt-ltb 7 (7 * suc k + 1) (omega arith), e)

pub unsigned-comes : (k : ℕ) (l : List ℕ) → Comes Fits Exceeds k l (u_n (7 * k + 1) l)
unfolding u_n
unsigned-comes k [] = short refl (omega arith) (none-goes []) (omega arith)
unsigned-comes zero (n ∷ l) = tenth-byte n l
unsigned-comes (suc k) (n ∷ l) = by (ltb n 128) refl (unsigned-comes k l) where
  by : (t : Bool) → ltb n 128 ≡ t → Comes Fits Exceeds k l (u_n (7 * k + 1) l) → Comes Fits Exceeds (suc k) (n ∷ l) (u_n (7 * suc k + 1) (n ∷ l))
  by true t c =
      let h = ltb-true n 128 t in
      rw (stops k n l h) (before {i = 0} (omega arith) (omega arith) h)
  by false t c =
      let h = ltb-false n 128 t in
      rw (continues k n l h) (after n (λ m. 128 * m + (n - 128)) h c)

-- ---- signed: any last byte fits
abbrev pub Any : ℕ → Type 0
Any n = Unit {0}

abbrev pub None : ℕ → Type 0
None n = ⊥

pub signed-comes : (k : ℕ) (l : List ℕ) → Comes Any None k l (s_n (7 * k + 1) l)
unfolding s_n
signed-comes k [] = short refl (omega arith) (none-goes []) tt
signed-comes zero (n ∷ l) = by (ltb n 128) refl where
  by : (t : Bool) → ltb n 128 ≡ t → Comes Any None zero (n ∷ l) (s_n 1 (n ∷ l))
  by true t = rw t (last (omega arith) (ltb-true n 128 t) tt)
  by false t = rw t (spent-after n (λ m. pos (n - 128) +ℤ pos 128 *ℤ m) (ltb-false n 128 t) l tt)
signed-comes (suc k) (n ∷ l) = by (ltb n 128) refl (signed-comes k l) where
  by : (t : Bool) → ltb n 128 ≡ t → Comes Any None k l (s_n (7 * k + 1) l) → Comes Any None (suc k) (n ∷ l) (s_n (7 * suc k + 1) (n ∷ l))
  by true t c = rw t (before {i = 0} (omega arith) (omega arith) (ltb-true n 128 t))
  by false t c =
      let e : 7 * suc k + 1 - 7 ≡ 7 * k + 1 = omega arith in
      rw (t, lt-ltb 7 (7 * suc k + 1) (omega arith), e) (after n (λ m. pos (n - 128) +ℤ pos 128 *ℤ m) (ltb-false n 128 t) c)
