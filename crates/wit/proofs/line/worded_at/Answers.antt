-- `worded_at` meets its contract. Assumes nothing.
use mathlib.Core.Path.{◌∙◌}
use native.Mathlib.Omega.{arith}
use Rattle.text.specs.Piece.{bytes_between}
use Rattle.wit.specs.Line.{package_w, world_w, import_w, export_w, lone}
use Rattle.wit.proofs.LineLaws.{starts-as, equal-as, word_fits, worded-package, worded-world, worded-close, worded-import, worded-export}
use Rattle.wit.proofs.LineLaws.{worded-brace, worded-other}
use Rattle.wit.proofs.line.worded_at.Goals as goal

pub part_at-requires : goal.part_at-requires
part_at-requires c =
    let a = c.args in
    let b = bytes_between a.s.now a.a a.e in
    let e1 = starts-as package_w b c.starts_with.ensures.value c.if-starts_with.true in
    omega (arith, word_fits a.s.now a.a a.e package_w (omega arith) e1)

pub returns-then-starts_with : goal.returns-then-starts_with
returns-then-starts_with c =
    let a = c.args in
    let b = bytes_between a.s.now a.a a.e in
    let e1 = starts-as package_w b c.starts_with.ensures.value c.if-starts_with.true in
    worded-package a.s.now a.a a.e _ e1 c.part_at.ensures

pub unbraced_at-past-requires : goal.unbraced_at-past-requires
unbraced_at-past-requires c =
    let a = c.args in
    let b = bytes_between a.s.now a.a a.e in
    let e1 = starts-as package_w b c.starts_with.ensures.value c.if-starts_with.false in
    let e2 = starts-as world_w b c.starts_with-2.ensures.value c.if-starts_with-2.true in
    omega (arith, word_fits a.s.now a.a a.e world_w (omega arith) e2)

pub returns-then-starts_with-2 : goal.returns-then-starts_with-2
returns-then-starts_with-2 c =
    let a = c.args in
    let b = bytes_between a.s.now a.a a.e in
    let e1 = starts-as package_w b c.starts_with.ensures.value c.if-starts_with.false in
    let e2 = starts-as world_w b c.starts_with-2.ensures.value c.if-starts_with-2.true in
    worded-world a.s.now a.a a.e e1 _ _ e2 c.unbraced_at-past.ensures.2 c.part_at-then-starts_with-2.ensures

pub returns-then-eq : goal.returns-then-eq
returns-then-eq c =
    let a = c.args in
    let b = bytes_between a.s.now a.a a.e in
    let e1 = starts-as package_w b c.starts_with.ensures.value c.if-starts_with.false in
    let e2 = starts-as world_w b c.starts_with-2.ensures.value c.if-starts_with-2.false in
    let e3 = equal-as (lone 125) b c.as_slice.ensures c.eq.ensures c.if-eq.true in
    worded-close a.s.now a.a a.e e1 e2 e3

pub reference_at-requires : goal.reference_at-requires
reference_at-requires c =
    let a = c.args in
    let b = bytes_between a.s.now a.a a.e in
    let e1 = starts-as package_w b c.starts_with.ensures.value c.if-starts_with.false in
    let e2 = starts-as world_w b c.starts_with-2.ensures.value c.if-starts_with-2.false in
    let e3 = equal-as (lone 125) b c.as_slice.ensures c.eq.ensures c.if-eq.false in
    let e4 = starts-as import_w b c.starts_with-3.ensures.value c.if-starts_with-3.true in
    omega (arith, word_fits a.s.now a.a a.e import_w (omega arith) e4)

pub returns-then-starts_with-3 : goal.returns-then-starts_with-3
returns-then-starts_with-3 c =
    let a = c.args in
    let b = bytes_between a.s.now a.a a.e in
    let e1 = starts-as package_w b c.starts_with.ensures.value c.if-starts_with.false in
    let e2 = starts-as world_w b c.starts_with-2.ensures.value c.if-starts_with-2.false in
    let e3 = equal-as (lone 125) b c.as_slice.ensures c.eq.ensures c.if-eq.false in
    let e4 = starts-as import_w b c.starts_with-3.ensures.value c.if-starts_with-3.true in
    c.reference_at.ensures ∙ worded-import a.s.now a.a a.e e1 e2 e3 e4

pub reference_at-requires-then-starts_with-4 : goal.reference_at-requires-then-starts_with-4
reference_at-requires-then-starts_with-4 c =
    let a = c.args in
    let b = bytes_between a.s.now a.a a.e in
    let e1 = starts-as package_w b c.starts_with.ensures.value c.if-starts_with.false in
    let e2 = starts-as world_w b c.starts_with-2.ensures.value c.if-starts_with-2.false in
    let e3 = equal-as (lone 125) b c.as_slice.ensures c.eq.ensures c.if-eq.false in
    let e4 = starts-as import_w b c.starts_with-3.ensures.value c.if-starts_with-3.false in
    let e5 = starts-as export_w b c.starts_with-4.ensures.value c.if-starts_with-4.true in
    omega (arith, word_fits a.s.now a.a a.e export_w (omega arith) e5)

pub returns-then-starts_with-4 : goal.returns-then-starts_with-4
returns-then-starts_with-4 c =
    let a = c.args in
    let b = bytes_between a.s.now a.a a.e in
    let e1 = starts-as package_w b c.starts_with.ensures.value c.if-starts_with.false in
    let e2 = starts-as world_w b c.starts_with-2.ensures.value c.if-starts_with-2.false in
    let e3 = equal-as (lone 125) b c.as_slice.ensures c.eq.ensures c.if-eq.false in
    let e4 = starts-as import_w b c.starts_with-3.ensures.value c.if-starts_with-3.false in
    let e5 = starts-as export_w b c.starts_with-4.ensures.value c.if-starts_with-4.true in
    c.reference_at-then-starts_with-4.ensures ∙ worded-export a.s.now a.a a.e e1 e2 e3 e4 e5

pub returns-then-eq-2 : goal.returns-then-eq-2
returns-then-eq-2 c =
    let a = c.args in
    let b = bytes_between a.s.now a.a a.e in
    let e1 = starts-as package_w b c.starts_with.ensures.value c.if-starts_with.false in
    let e2 = starts-as world_w b c.starts_with-2.ensures.value c.if-starts_with-2.false in
    let e3 = equal-as (lone 125) b c.as_slice.ensures c.eq.ensures c.if-eq.false in
    let e4 = starts-as import_w b c.starts_with-3.ensures.value c.if-starts_with-3.false in
    let e5 = starts-as export_w b c.starts_with-4.ensures.value c.if-starts_with-4.false in
    let e6 = equal-as (lone 123) b c.as_slice-2.ensures c.eq-2.ensures c.if-eq-2.true in
    worded-brace a.s.now a.a a.e e1 e2 e3 e4 e5 e6

pub returns : goal.returns
returns c =
    let a = c.args in
    let b = bytes_between a.s.now a.a a.e in
    let e1 = starts-as package_w b c.starts_with.ensures.value c.if-starts_with.false in
    let e2 = starts-as world_w b c.starts_with-2.ensures.value c.if-starts_with-2.false in
    let e3 = equal-as (lone 125) b c.as_slice.ensures c.eq.ensures c.if-eq.false in
    let e4 = starts-as import_w b c.starts_with-3.ensures.value c.if-starts_with-3.false in
    let e5 = starts-as export_w b c.starts_with-4.ensures.value c.if-starts_with-4.false in
    let e6 = equal-as (lone 123) b c.as_slice-2.ensures c.eq-2.ensures c.if-eq-2.false in
    worded-other a.s.now a.a a.e e1 e2 e3 e4 e5 e6
