-- `KeyRows::seek` meets its contract: what is left of the search answers for all of it. Assumes nothing.
use mathlib.Core.Path.{refl, sym, ◌∙◌}
use native.Mathlib.Omega.{arith}
use Rattle.keyed.proofs.Searching.{some-hit, some-miss, some_end}
use Rattle.keyed.proofs.Seeking.{unlike-pass}
use Rattle.keyed.proofs.rows.KeyRows.seek.Goals as goal

pub next_like-j-requires : goal.next_like-j-requires
next_like-j-requires c =
    let p = c.requires.i_lt_n in
    (p.1, omega (arith, p.2, p.3))

pub search-init : goal.search-init
search-init c =
    let e = c.next_like-j.ensures in
    (refl, sym (unlike-pass _ _ _ _ _ _ _ _ _ c.requires.i_lt_n.0 e.0 e.1 c.requires.i_lt_n.2 c.requires.printed refl e.2))

pub returns-then-meets : goal.returns-then-meets
returns-then-meets c = sym (sym c.search.invariant.1 ∙ some-hit _ _ _ c.search-test.true (sym c.meets.ensures ∙ c.if-meets.true))

pub next_like-j-requires-in-search : goal.next_like-j-requires-in-search
next_like-j-requires-in-search c =
    let p = c.requires.i_lt_n in
    (omega (arith, c.search-test.true), omega (arith, p.2, p.3))

pub search-preserved : goal.search-preserved
search-preserved c =
    let v = c.search.invariant in
    let e = c.next_like-j-in-search.ensures in (
      v.0,
      sym (some-miss _ _ _ c.search-test.true (sym c.meets.ensures ∙ c.if-meets.false)
          ∙ unlike-pass _ _ _ _ _ _ _ _ _ c.requires.i_lt_n.0 e.0 e.1 c.requires.i_lt_n.2 c.requires.printed v.0 e.2) ∙ v.1,
    )

pub returns : goal.returns
returns c = sym (sym c.search.invariant.1 ∙ some_end _ _ _ c.search-test.false)
