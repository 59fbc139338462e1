-- `import_rows::imported` meets its contract. Assumes nothing.
use Rattle.std.proofs.Common.{rules, ◌≡◌, Err}
use mathlib.Core.Path.{sym, ◌∙◌, ap}
use Rattle.refusal.specs.Said.{accepted, said_by}
use Rattle.refusal.proofs.Following.{follow-stops, follow-goes}
use Rattle.import_rows.specs.Queries.{imported_of}
use Rattle.import_rows.proofs.Asking.{count-range}
use Rattle.import_rows.proofs.imported.Goals as goal

pub returns-in_err-check_kinds : goal.returns-in_err-check_kinds
unfolding imported_of
returns-in_err-check_kinds c =
    let e : c.from_residual.result ≡ Err c.in_err-check_kinds.field-0.0 = search rules in
    rw e (follow-stops _ (sym c.check_kinds.ensures ∙ ap said_by c.in_err-check_kinds.was))

pub returns : goal.returns
unfolding imported_of
returns c =
    follow-goes _ (sym c.check_kinds.ensures ∙ ap said_by c.in_ok-check_kinds.was)
    (ap accepted (c.count_kind.ensures ∙ count-range c.args.imports.cells.now c.args.kind 0 c.args.imports.count))
