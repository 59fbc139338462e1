-- Laws of the reader: a line, the lines, the answer. Assumes nothing.
use Rattle.std.specs.Prelude.{Result, Ok, Err}
use Prim.Native.Nat.{ℕ, ◌+◌, ◌≤◌}
use mathlib.Core.Path.{◌≡◌, refl, sym, ◌∙◌, ap, subst}
use mathlib.Core.List.{List}
use lib.ListN.{length, drop}
use Rattle.refusal.specs.Said.{Said, accepted, refused, refused_by, follow, Got, got, onward, said_by, Place}
use Rattle.refusal.specs.declared.Refusal.{Refusal}
use Rattle.text.specs.Lines.{line_len, line_step}
use Rattle.table.specs.Told.{ReaderTells}
use Rattle.table.specs.Walking.{walk_from}
use Rattle.table.proofs.Telling.{told-stop, told-got, tell-after, tell-after-stop}
use Rattle.table.proofs.Walking.{Going, going_end}
use Rattle.text.specs.Whole.{whole_text}
use Rattle.text.specs.Piece.{piece}
use Rattle.wit.specs.Line.{manifest_directive}
use Rattle.wit.specs.declared.line.Directive.{Directive}
use Rattle.wit.specs.declared.rows.Known.{Known}
use Rattle.wit.specs.declared.Manifest.{Manifest}
use Rattle.wit.specs.Manifest.{State, on_next, start, ManifestSizes, close_at, obey_at, line_at, lines_at, manifest_at, known_of}
use Rattle.wit.specs.Manifest.{manifest_known}
use Rattle.wit.specs.Manifest.{manifest_of, ManifestLent, ManifestHolds, manifest_held, ManifestIs, next_line, Steps}

pub sizes-same : {a b a1 b1 : ℕ} → a1 ≡ a → b1 ≡ b
    → ◌≡◌ {A = ManifestSizes} (record { worlds = a1; references = b1 }) (record { worlds = a; references = b })
sizes-same p q = cc

-- a line, by what the calls found
pub line-told : (s : List ℕ) (at e next : ℕ) (d : Directive) (k m : Known) {z : ManifestSizes} {before after : ManifestLent}
    {a : Said (Got Known)}
    → e ≡ at + line_len (drop at s) → next ≡ at + line_step (drop at s) → d ≡ manifest_directive (piece s at e) → m ≡ next_line k
    → Steps z before after m (obey_at z d next) a → Steps z before after k (line_at s z at) a
unfolding line_at known_of
line-told s at e next d k m {z} {before} {after} {a} ke kn kd km steps t c h =
    let x : d ≡ manifest_directive (piece s at (at + line_len (drop at s))) = kd ∙ ap (λ (i : ℕ). manifest_directive (piece s at i)) ke in
    let o = steps (on_next t) (km ∙ ap next_line c) (record { worlds-are = h.worlds-are; references-are = h.references-are }) in
    let i = at + line_step (drop at s) in
    let r : ReaderTells known_of (ManifestHolds after z) (obey_at z (manifest_directive (piece s at (at + line_len (drop at s)))) i
    (on_next t)) a =
    subst (λ (y : Directive). ReaderTells known_of (ManifestHolds after z) (obey_at z y (at + line_step (drop at s)) (on_next t)) a) x
    (subst (λ (i : ℕ). ReaderTells known_of (ManifestHolds after z) (obey_at z d i (on_next t)) a) kn o) in
    record { answer-is = r.answer-is; holds = r.holds }

-- a line that is refused ends the whole; the end of the text closes an open world
pub lines-off : (s : List ℕ) (z : ManifestSizes) {P : State → Type 0} {m : ℕ} {p : Place}
    → ReaderTells known_of P (walk_from (line_at s z) s 0 start) (refused m p) → ReaderTells known_of P (lines_at s z) (refused m p)
unfolding lines_at
lines-off s z told = tell-after-stop _ told refl

pub lines-told : (s : List ℕ) (at : ℕ) (z z1 : ManifestSizes) (k : Known) (l l1 : ManifestLent) {a : Said (Got Known)}
    → Going known_of (ManifestHolds l z) k (line_at s z) s (walk_from (line_at s z) s 0 start) at → length s ≤ at → z1 ≡ z
    → Steps z1 l l1 k (close_at z1 at) a → ReaderTells known_of (ManifestHolds l1 z) (lines_at s z) a
unfolding lines_at
lines-told s at z z1 k l l1 {a} g h same steps =
    let here = subst (λ (y : ManifestSizes). Steps y l l1 k (close_at y at) a) same steps in
    tell-after _ (going_end g h) refl (λ t x v held. here t v held)

-- ---- the whole text
module _ (s : List ℕ) (z : ManifestSizes) where
  stopped : (l : ManifestLent) (m : ℕ) (p : Place) → manifest_at s z ≡ refused m p → ManifestHolds l z start
      → ManifestIs z (manifest_at s z) l (refused m p)
  unfolding manifest_held follow
  stopped l m p e h = rw e (record { answer-is = refl; tables-are = h })

  module _ {b : Result (Unit {0}) Refusal} (tested : said_by b ≡ whole_text s) where
    pub manifest-bad : (l : ManifestLent) {w : Refusal} → b ≡ Err w → ManifestHolds l z start
        → ManifestIs z (manifest_at s z) l (refused_by w)
    unfolding manifest_at follow
    manifest-bad l {w} e h =
        let x : whole_text s ≡ refused_by w = sym tested ∙ ap said_by e in
        let y : manifest_at s z ≡ refused_by w = rw x in
        stopped l _ _ y h

    module _ (good : b ≡ (Ok tt)) (z1 : ManifestSizes) (same : z1 ≡ z) (l : ManifestLent) {a : Said (Got Known)}
        (told : ReaderTells known_of (ManifestHolds l z1) (lines_at s z1) a) where
      whole : whole_text s ≡ accepted tt
      whole = sym tested ∙ ap said_by good

      here : ReaderTells known_of (ManifestHolds l z) (lines_at s z) a
      here = subst (λ (y : ManifestSizes). ReaderTells known_of (ManifestHolds l y) (lines_at s y) a) same told

      pub manifest-good : (k : Known) (d : ℕ) (r : Manifest) → a ≡ accepted (got k d) → r ≡ manifest_known k
          → ManifestIs z (manifest_at s z) l (accepted r)
      unfolding manifest_at onward follow manifest_of manifest_held
      manifest-good k d r q e =
          let o = told-got here q in
          let w : lines_at s z ≡ accepted (got o.what d) = o.is in
          rw (whole, w) (record { answer-is = ap accepted (e ∙ ap manifest_known o.value); tables-are = o.held })

      pub manifest-stop : (l1 : ManifestLent) (m : ℕ) (p : Place) → a ≡ refused m p → ManifestHolds l1 z start
          → ManifestIs z (manifest_at s z) l1 (refused m p)
      unfolding manifest_at onward follow
      manifest-stop l1 m p q h =
          let w : lines_at s z ≡ refused m p = told-stop here q in
          let x : manifest_at s z ≡ refused m p = rw (whole, w) in
          stopped l1 m p x h
