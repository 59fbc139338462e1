-- `read_lines` meets its contract: the invariant is `Going`. Assumes nothing.
use Rattle.std.proofs.Common.{rules, Err}
use mathlib.Core.Path.{◌≡◌, refl, ◌∙◌, ap}
use native.Mathlib.Omega.{arith}
use Rattle.table.proofs.Telling.{passed}
use Rattle.table.proofs.Walking.{going-off, going_on}
use Rattle.wit.specs.Manifest.{ManifestSizes, ManifestHolds, start, line_at, known_of, said_known}
use Rattle.wit.specs.declared.rows.Known.{Known}
use Rattle.wit.proofs.Stepping.{numbered}
use Rattle.wit.proofs.Answer.{sizes-same, lines-off, lines-told}
use Rattle.wit.proofs.read_lines.Goals as goal

pub loop-at-init : goal.loop-at-init
unfolding known_of start
loop-at-init c = (
  record { state = start; value = c.first_known-k.ensures; held = c.requires; goes_on = refl },
  refl,
  omega (arith, ap (λ (x : Known). x.line) c.first_known-k.ensures),
)

pub read_line-requires : goal.read_line-requires
read_line-requires c = record { at_in_bounds = c.loop-at-test.true; line_le_at = c.loop-at.invariant.2 }

pub returns-in_err-n : goal.returns-in_err-n
returns-in_err-n c =
    let is : c.from_residual.result ≡ Err c.in_err-n.field-0.0 = search rules in
    rw is (lines-off _ _ (going-off (line_at _) (ManifestHolds _) (ManifestHolds _) c.loop-at.invariant.0 c.loop-at.invariant.1
    c.read_line.ensures.2 c.loop-at-test.true (ap said_known c.in_err-n.was)))

pub loop-at-smaller : goal.loop-at-smaller
loop-at-smaller c =
    let p = passed _ _ c.read_line.ensures.0 (ap said_known c.in_ok-n.was) in
    omega (arith, c.loop-at-test.true, p)

pub loop-at-preserved : goal.loop-at-preserved
loop-at-preserved c =
    let kept = sizes-same c.read_line.auto.worlds c.read_line.auto.references ∙ c.loop-at.invariant.1 in
    let q = ap said_known c.in_ok-n.was in
    let p = passed _ _ c.read_line.ensures.0 q in (
      going_on (line_at _) (ManifestHolds _) (ManifestHolds _) c.loop-at.invariant.0 c.loop-at.invariant.1 c.read_line.ensures.2 q p.0
          p.1,
      kept,
      omega (arith, numbered c.read_line.ensures.1 q, p, c.loop-at.invariant.2),
    )

pub shape_of-worlds : goal.shape_of-worlds
shape_of-worlds c = c.close_world.auto.worlds ∙ ap (λ (z : ManifestSizes). z.worlds) c.loop-at.invariant.1

pub shape_of-references : goal.shape_of-references
shape_of-references c = ap (λ (z : ManifestSizes). z.references) c.loop-at.invariant.1

pub returns : goal.returns
returns c = lines-told _ _ _ _ _ _ _ c.loop-at.invariant.0 c.loop-at-test.false c.loop-at.invariant.1 (c.close_world.ensures.2 _ _)
