-- `strict::rules::lowest` meets its contract. Assumes nothing.
use mathlib.Core.Path.{sym, ◌∙◌}
use Rattle.strict.proofs.Judging.{lowest-1, lowest-2, lowest-3, lowest-4, lowest-5, lowest-6, lowest-7, lowest-8, lowest-none}
use borrow.Author.Tests.{ne_eqb, eq-eqb, not-true, not-false}
use Rattle.strict.proofs.rules.lowest.Goals as goal

pub returns-then-version-ne-VERSION : goal.returns-then-version-ne-VERSION
returns-then-version-ne-VERSION c = lowest-1 _ _ _ _ _ _ _ _ (ne_eqb _ _ c.if-version-ne-VERSION.true)

pub returns-then-not-m : goal.returns-then-not-m
returns-then-not-m c = lowest-2 _ _ _ _ _ _ _ _ (eq-eqb _ _ c.if-version-ne-VERSION.false) (not-true _ c.if-not-m.true)

pub returns-then-not-at_most : goal.returns-then-not-at_most
returns-then-not-at_most c =
    lowest-3 _ _ _ _ _ _ _ _ (eq-eqb _ _ c.if-version-ne-VERSION.false) (not-false _ c.if-not-m.false)
    (sym c.at_most.ensures ∙ not-true _ c.if-not-at_most.true-raw)

pub returns-then-not-in_order : goal.returns-then-not-in_order
returns-then-not-in_order c =
    lowest-4 _ _ _ _ _ _ _ _ (eq-eqb _ _ c.if-version-ne-VERSION.false) (not-false _ c.if-not-m.false)
    (sym c.at_most.ensures ∙ not-false _ c.if-not-at_most.false-raw) (sym c.in_order.ensures ∙ not-true _ c.if-not-in_order.true-raw)

pub returns-then-not-m-2 : goal.returns-then-not-m-2
returns-then-not-m-2 c =
    lowest-5 _ _ _ _ _ _ _ _ (eq-eqb _ _ c.if-version-ne-VERSION.false) (not-false _ c.if-not-m.false)
    (sym c.at_most.ensures ∙ not-false _ c.if-not-at_most.false-raw) (sym c.in_order.ensures ∙ not-false _ c.if-not-in_order.false-raw)
    (not-true _ c.if-not-m-2.true)

pub names_differ-requires : goal.names_differ-requires
names_differ-requires c = c.requires

pub returns-then-not-names_differ : goal.returns-then-not-names_differ
returns-then-not-names_differ c =
    lowest-6 _ _ _ _ _ _ _ _ (eq-eqb _ _ c.if-version-ne-VERSION.false) (not-false _ c.if-not-m.false)
    (sym c.at_most.ensures ∙ not-false _ c.if-not-at_most.false-raw) (sym c.in_order.ensures ∙ not-false _ c.if-not-in_order.false-raw)
    (not-false _ c.if-not-m-2.false) (sym c.names_differ.ensures ∙ not-true _ c.if-not-names_differ.true-raw)

pub returns-then-not-at_most-2 : goal.returns-then-not-at_most-2
returns-then-not-at_most-2 c =
    lowest-7 _ _ _ _ _ _ _ _ (eq-eqb _ _ c.if-version-ne-VERSION.false) (not-false _ c.if-not-m.false)
    (sym c.at_most.ensures ∙ not-false _ c.if-not-at_most.false-raw) (sym c.in_order.ensures ∙ not-false _ c.if-not-in_order.false-raw)
    (not-false _ c.if-not-m-2.false) (sym c.names_differ.ensures ∙ not-false _ c.if-not-names_differ.false-raw)
    (sym c.at_most-2.ensures ∙ not-true _ c.if-not-at_most-2.true-raw)

pub returns-then-not-m-3 : goal.returns-then-not-m-3
returns-then-not-m-3 c =
    lowest-8 _ _ _ _ _ _ _ _ (eq-eqb _ _ c.if-version-ne-VERSION.false) (not-false _ c.if-not-m.false)
    (sym c.at_most.ensures ∙ not-false _ c.if-not-at_most.false-raw) (sym c.in_order.ensures ∙ not-false _ c.if-not-in_order.false-raw)
    (not-false _ c.if-not-m-2.false) (sym c.names_differ.ensures ∙ not-false _ c.if-not-names_differ.false-raw)
    (sym c.at_most-2.ensures ∙ not-false _ c.if-not-at_most-2.false-raw) (not-true _ c.if-not-m-3.true)

pub returns : goal.returns
returns c =
    lowest-none _ _ _ _ _ _ _ _ (eq-eqb _ _ c.if-version-ne-VERSION.false) (not-false _ c.if-not-m.false)
    (sym c.at_most.ensures ∙ not-false _ c.if-not-at_most.false-raw) (sym c.in_order.ensures ∙ not-false _ c.if-not-in_order.false-raw)
    (not-false _ c.if-not-m-2.false) (sym c.names_differ.ensures ∙ not-false _ c.if-not-names_differ.false-raw)
    (sym c.at_most-2.ensures ∙ not-false _ c.if-not-at_most-2.false-raw) (not-false _ c.if-not-m-3.false)
