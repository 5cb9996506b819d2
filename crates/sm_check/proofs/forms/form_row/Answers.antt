-- Formulas of two parts.
use Rattle.sm_check.proofs.Imports.{refl, ap, trees_in, sorts_in, And, Or, row_form}
use Rattle.sm_check.proofs.FormRowsLemmas.{row_of_two}
use Rattle.sm_check.proofs.forms.form_row.Goals as goal

pub returns-in_ok-f-in-And-clause-tells : goal.returns-in_ok-f-in-And-clause-tells
returns-in_ok-f-in-And-clause-tells c forms stand =
    let k = c.in_ok-f-in-And in
    let trees = trees_in c.args.table.now in
    let sorts = sorts_in c.args.table.now in
    rw c.in-And.is
    (row_of_two sorts trees c.args.rows.now forms c.in-And.p c.in-And.q And k.f k.g c.join.result _ (λ a b. refl) (λ a b. refl)
    (ap (row_form sorts trees forms) c.join.ensures.made) stand k.ensures.rows.0 k.ensures.rows.1
    (k.ensures.tells forms And stand.count) c.join.ensures.nodes c.join.ensures.depth)

pub returns-in_ok-f-in-Or-clause-tells : goal.returns-in_ok-f-in-Or-clause-tells
returns-in_ok-f-in-Or-clause-tells c forms stand =
    let k = c.in_ok-f-in-Or in
    let trees = trees_in c.args.table.now in
    let sorts = sorts_in c.args.table.now in
    rw c.in-Or.is
    (row_of_two sorts trees c.args.rows.now forms c.in-Or.p c.in-Or.q Or k.f k.g c.join-in-Or.result _ (λ a b. refl) (λ a b. refl)
    (ap (row_form sorts trees forms) c.join-in-Or.ensures.made) stand k.ensures.rows.0 k.ensures.rows.1
    (k.ensures.tells forms Or stand.count) c.join-in-Or.ensures.nodes c.join-in-Or.ensures.depth)
