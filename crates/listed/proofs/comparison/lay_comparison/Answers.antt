-- `lay_comparison` meets its contract. Assumes nothing.
use native.Mathlib.Omega.{arith}
use mathlib.Core.Path.{refl, sym}
use lib.ListN.{length-take}
use mathlib.Core.List.{append-nil}
use lib.Seq.{length-take-le}
use Rattle.listed.proofs.Explaining.{explains-none, explains, rows_before, rows_long}
use Rattle.listed.proofs.comparison.lay_comparison.Goals as goal

pub slice_bounds-lay_four-end : goal.slice_bounds-lay_four-end
slice_bounds-lay_four-end c = sym (length-take-le _ _ (omega arith))

pub slice_bounds-lay_four-end-in-Ok : goal.slice_bounds-lay_four-end-in-Ok
slice_bounds-lay_four-end-in-Ok c = sym (length-take-le _ _ (omega arith))

pub lay_four-requires : goal.lay_four-requires
lay_four-requires c = simp length-take (omega arith)

pub overflow_sub-result : goal.overflow_sub-result
overflow_sub-result c = rows_before _ _ _ (rows_long _ _ c.requires refl refl) c.reasons_from.ensures c.in-Ok.is

pub returns-in-Err : goal.returns-in-Err
returns-in-Err c = explains-none _ _ _ (rows_long _ _ c.requires refl refl) c.reasons_from.ensures _ c.in-Err.is c.no_comparison.ensures

pub returns-in-Ok : goal.returns-in-Ok
returns-in-Ok c =
    explains _ _ _ (rows_long _ _ c.requires refl refl) c.reasons_from.ensures c.in-Ok.is _ (simp append-nil at c.lay_four.ensures) refl
