-- A copy that is none.
use Rattle.std.proofs.Common.{rules, ◌≡◌, None}
use Rattle.sm_expand.proofs.RowsLemmas.{no_step, no_abs}
use Rattle.sm_expand.proofs.cursor.simple_row.Goals as goal

pub returns-in_err-copy-in-Step-clause-row : goal.returns-in_err-copy-in-Step-clause-row
returns-in_err-copy-in-Step-clause-row c = λ sorts trees.
    let none : c.from_residual.result ≡ None = search rules in
    no_step sorts trees c.args.simple.now c.in-Step.copy c.from_residual.result c.in-Step.is c.in_err-copy-in-Step.ensures none

pub returns-in_err-copy-in-Abs-clause-row : goal.returns-in_err-copy-in-Abs-clause-row
returns-in_err-copy-in-Abs-clause-row c = λ sorts trees.
    let none : c.from_residual-in_err-copy-in-Abs.result ≡ None = search rules in
    no_abs sorts trees c.args.simple.now c.in-Abs.copy c.in-Abs.count c.from_residual-in_err-copy-in-Abs.result c.in-Abs.is
    c.in_err-copy-in-Abs.ensures none
