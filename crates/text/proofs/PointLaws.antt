-- Trimming the bytes of code points is trimming the code points. Assumes nothing.
use mathlib.Core.Path.{◌≡◌, refl, ap, ◌∙◌, sym}
use mathlib.Core.Bool.{Bool, true, false}
use mathlib.Core.List.{List, [], ◌∷◌, ◌++◌, map, append_assoc}
use Prim.Native.Nat.{ℕ, suc, ◌+◌, ◌-◌}
use native.Mathlib.Omega.{arith}
use lib.Dec.{eqb}
use lib.ListN.{length, drop, length-append, take}
use lib.Seq.{drop-append_seam, take-append_seam}
use borrow.Author.Tests.{ne_eqb}
use Rattle.refusal.specs.Pick.{pick, both}
use Rattle.text.specs.White.{is_white}
use Rattle.text.specs.Trim.{start_len, end_len, trim_start, trim_end, started, ended, trim_of}
use Rattle.text.specs.Encode.{encode, encode_all, unless_last, drop_end, take_while, drop_start, Scalars, empty, point}
use Rattle.text.proofs.EncodeLaws.{nonempty, char_of, chars-all}

size : (c : ℕ) → suc (length (encode c) - 1) ≡ length (encode c)
size c = omega (arith, nonempty c)

start-map : (cs : List ℕ) → start_len (map char_of cs) ≡ length (encode_all (take_while is_white cs))
unfolding start_len take_while encode_all
start-map [] = refl
start-map (c ∷ cs) = by (is_white c) (start-map cs)
  where
    by : (t : Bool) → start_len (map char_of cs) ≡ length (encode_all (take_while is_white cs))
        → pick t (suc (length (encode c) - 1) + start_len (map char_of cs)) 0 ≡ length (encode_all (pick t (c ∷ take_while is_white cs) []))
    by true ih = omega (arith, size c, ih, length-append (encode c) (encode_all (take_while is_white cs)))
    by false ih = refl

end-map : (cs : List ℕ) → end_len (map char_of cs) ≡ length (encode_all (drop_end is_white cs))
unfolding end_len drop_end encode_all unless_last
end-map [] = refl
end-map (c ∷ cs) = by (is_white c) (end_len (map char_of cs)) (drop_end is_white cs) (end-map cs)
  where
    by : (t : Bool) (n : ℕ) (ds : List ℕ) → n ≡ length (encode_all ds)
        → pick (both t (eqb n 0)) 0 (suc (length (encode c) - 1) + n) ≡ length (encode_all (unless_last t c ds))
    by true n [] ih = rw ih
    by true n (d ∷ ds) ih =
        let some : n ≡ 0 → ⊥ = λ z. omega (arith, z, ih, nonempty d, length-append (encode d) (encode_all ds)) in
        rw (ne_eqb n 0 some) (omega (arith, size c, ih, length-append (encode c) (encode_all (d ∷ ds))))
    by false n [] ih = omega (arith, size c, ih, length-append (encode c) [])
    by false n (d ∷ ds) ih = omega (arith, size c, ih, length-append (encode c) (encode_all (d ∷ ds)))

-- the White_Space at the front of a text is that of its code points
pub start-encode : {cs : List ℕ} → Scalars cs → trim_start (encode_all cs) ≡ length (encode_all (take_while is_white cs))
unfolding trim_start
start-encode {cs} h = rw (chars-all h) (start-map cs)

-- what stays when the White_Space at the end is removed
pub end-encode : {cs : List ℕ} → Scalars cs → trim_end (encode_all cs) ≡ length (encode_all (drop_end is_white cs))
unfolding trim_end
end-encode {cs} h = rw (chars-all h) (end-map cs)

-- ---- the text by its parts
encode-append : (cs ds : List ℕ) → encode_all (cs ++ ds) ≡ encode_all cs ++ encode_all ds
unfolding encode_all
encode-append [] ds = refl
encode-append (c ∷ cs) ds = rw (encode-append cs ds) (sym (append_assoc (encode c) (encode_all cs) (encode_all ds)))

start-split : (p : ℕ → Bool) (cs : List ℕ) → cs ≡ take_while p cs ++ drop_start p cs
unfolding take_while drop_start
start-split p [] = refl
start-split p (c ∷ cs) = by (p c) (start-split p cs)
  where
    by : (t : Bool) → cs ≡ take_while p cs ++ drop_start p cs
        → ◌≡◌ {A = List ℕ} (c ∷ cs) (pick t (c ∷ take_while p cs) [] ++ pick t (drop_start p cs) (c ∷ cs))
    by true ih = ap (λ (l : List ℕ). c ∷ l) ih
    by false ih = refl

start-scalars : (p : ℕ → Bool) {cs : List ℕ} → Scalars cs → Scalars (drop_start p cs)
unfolding drop_start
start-scalars p empty = empty
start-scalars p (point {c = c} {cs = cs} h hs) = by (p c) (start-scalars p hs)
  where
    by : (t : Bool) → Scalars (drop_start p cs) → Scalars (pick t (drop_start p cs) (c ∷ cs))
    by true ih = ih
    by false ih = point h hs

-- what `drop_end` leaves out
unfoldable out : Bool → ℕ → List ℕ → List ℕ → List ℕ
out true c [] o = c ∷ o
out true c (d ∷ ds) o = o
out false c ds o = o

unfoldable out_end : (ℕ → Bool) → List ℕ → List ℕ
out_end p [] = []
out_end p (c ∷ cs) = out (p c) c (drop_end p cs) (out_end p cs)

end-split : (p : ℕ → Bool) (cs : List ℕ) → cs ≡ drop_end p cs ++ out_end p cs
unfolding drop_end out_end unless_last out
end-split p [] = refl
end-split p (c ∷ cs) = by (p c) (drop_end p cs) (end-split p cs)
  where
    by : (t : Bool) (ds : List ℕ) → cs ≡ ds ++ out_end p cs
        → ◌≡◌ {A = List ℕ} (c ∷ cs) (unless_last t c ds ++ out t c ds (out_end p cs))
    by true [] e = ap (λ (l : List ℕ). c ∷ l) e
    by true (d ∷ ds) e = ap (λ (l : List ℕ). c ∷ l) e
    by false [] e = ap (λ (l : List ℕ). c ∷ l) e
    by false (d ∷ ds) e = ap (λ (l : List ℕ). c ∷ l) e

-- ---- THE LAW of trimming: on the bytes of scalar values it is trimming of code points
started-encode : {cs : List ℕ} → Scalars cs → started (encode_all cs) ≡ encode_all (drop_start is_white cs)
started-encode {cs} h =
    let fore = encode_all (take_while is_white cs) in
    let rest = encode_all (drop_start is_white cs) in
    let e : encode_all cs ≡ fore ++ rest =
    ap encode_all (start-split is_white cs) ∙ encode-append (take_while is_white cs) (drop_start is_white cs) in
    ap (λ (n : ℕ). drop n (encode_all cs)) (start-encode h) ∙ ap (drop (length fore)) e ∙ drop-append_seam fore rest

ended-encode : {cs : List ℕ} → Scalars cs → ended (encode_all cs) ≡ encode_all (drop_end is_white cs)
ended-encode {cs} h =
    let kept = encode_all (drop_end is_white cs) in
    let gone = encode_all (out_end is_white cs) in
    let e : encode_all cs ≡ kept ++ gone =
    ap encode_all (end-split is_white cs) ∙ encode-append (drop_end is_white cs) (out_end is_white cs) in
    ap (λ (n : ℕ). take n (encode_all cs)) (end-encode h) ∙ ap (take (length kept)) e ∙ take-append_seam kept gone

pub trim-encode : {cs : List ℕ} → Scalars cs → trim_of (encode_all cs) ≡ encode_all (drop_end is_white (drop_start is_white cs))
unfolding trim_of
trim-encode {cs} h = ap (λ (l : List ℕ). ended l) (started-encode h) ∙ ended-encode (start-scalars is_white h)
