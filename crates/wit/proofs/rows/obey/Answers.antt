-- `obey` meets its contract: each kind of line by its own law. Assumes nothing.
use mathlib.Core.Path.{refl, sym, ◌∙◌, ap}
use Rattle.table.specs.Told.{Ends}
use Rattle.wit.specs.Manifest.{Numbered}
use Rattle.wit.specs.declared.rows.Known.{Known}
use Rattle.wit.proofs.Stepping.{obey-blank, obey-other, obey-world, in-package, in-close, in-refer, in-brace}
use Rattle.wit.proofs.Stepping.{out-package, out-close, out-refer, out-brace}
use Rattle.wit.proofs.rows.obey.Goals as goal

pub returns-then-inside : goal.returns-then-inside
unfolding Ends Numbered
returns-then-inside c = (tt, tt, λ t e h. in-package e h _ _ (sym c.is_some-inside.ensures ∙ c.if-inside.true) _ c.in-Package.is)

pub returns-then-inside-2 : goal.returns-then-inside-2
returns-then-inside-2 c = (
  c.close_world.ensures.0,
  c.close_world.ensures.1,
  λ t e h. in-close e h _ _ (sym c.is_some-inside.ensures ∙ c.if-inside-2.true) c.in-Close.is (c.close_world.ensures.2 _ _ t e h),
)

pub returns-then-inside-3 : goal.returns-then-inside-3
returns-then-inside-3 c = (
  c.add_reference.ensures.0,
  c.add_reference.ensures.1,
  λ t e h. in-refer e h _ _ (sym c.is_some-inside.ensures ∙ c.if-inside-3.true) _ _ _ c.in-Refer.is (c.add_reference.ensures.2 _ _ t e h),
)

pub returns-then-inside-4 : goal.returns-then-inside-4
unfolding Ends Numbered
returns-then-inside-4 c = (refl, refl, λ t e h. in-brace e h _ _ (sym c.is_some-inside.ensures ∙ c.if-inside-4.true) c.in-Brace.is)

pub returns-in-Blank : goal.returns-in-Blank
unfolding Ends Numbered
returns-in-Blank c = (refl, refl, λ t e h. obey-blank e h _ _ c.in-Blank.is)

pub returns-else-inside : goal.returns-else-inside
unfolding Ends Numbered
returns-else-inside c = (
  refl,
  ap (λ (x : Known). x.line) c.with_package.ensures,
  λ t e h. out-package e h _ _ (sym c.is_some-inside.ensures ∙ c.if-inside.false) _ _ c.in-Package.is c.with_package.ensures,
)

pub returns-in-World : goal.returns-in-World
returns-in-World c = (
  c.open_world.ensures.0,
  c.open_world.ensures.1,
  λ t e h. obey-world _ t _ _ _ c.in-World.is (c.open_world.ensures.2 _ _ t e h),
)

pub returns-else-inside-2 : goal.returns-else-inside-2
unfolding Ends Numbered
returns-else-inside-2 c = (tt, tt, λ t e h. out-close e h _ _ (sym c.is_some-inside.ensures ∙ c.if-inside-2.false) c.in-Close.is)

pub returns-else-inside-3 : goal.returns-else-inside-3
unfolding Ends Numbered
returns-else-inside-3 c = (tt, tt, λ t e h. out-refer e h _ _ (sym c.is_some-inside.ensures ∙ c.if-inside-3.false) _ _ _ c.in-Refer.is)

pub returns-else-inside-4 : goal.returns-else-inside-4
unfolding Ends Numbered
returns-else-inside-4 c = (tt, tt, λ t e h. out-brace e h _ _ (sym c.is_some-inside.ensures ∙ c.if-inside-4.false) c.in-Brace.is)

pub returns-in-Other : goal.returns-in-Other
unfolding Ends Numbered
returns-in-Other c = (tt, tt, λ t e h. obey-other e h _ _ c.in-Other.is)
