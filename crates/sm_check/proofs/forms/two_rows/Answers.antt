-- Two rows that are there.
use Rattle.sm_check.proofs.Imports.{sym, slice_get_within}
use Rattle.sm_check.proofs.FormRowsLemmas.{there_too, missing_too, from_there, from_without_first, from_without_second}
use Rattle.sm_check.proofs.forms.two_rows.Goals as goal

pub returns-in-Some-row_at-clause-tells : goal.returns-in-Some-row_at-clause-tells
returns-in-Some-row_at-clause-tells c forms makes same =
    let f = there_too c.args.rows.now forms c.args.p c.in-Some.f same (sym c.in-Some.ensures) in
    let g = there_too c.args.rows.now forms c.args.q c.in-Some-row_at.g same (sym c.in-Some-row_at.ensures) in
    (f.0, g.0, f.1, g.1, from_there forms c.args.p c.args.q makes f.0 g.0 f.1 g.1)

pub returns-in-Some-row_at-clause-within : goal.returns-in-Some-row_at-clause-within
returns-in-Some-row_at-clause-within c = (
  slice_get_within c.args.rows.now c.args.p c.in-Some.f (sym c.in-Some.ensures),
  slice_get_within c.args.rows.now c.args.q c.in-Some-row_at.g (sym c.in-Some-row_at.ensures),
)

pub returns-in-None-row_at-clause-tells : goal.returns-in-None-row_at-clause-tells
returns-in-None-row_at-clause-tells c forms makes same =
    let f = there_too c.args.rows.now forms c.args.p c.in-Some.f same (sym c.in-Some.ensures) in
    from_without_second forms c.args.p c.args.q makes f.0 f.1 (missing_too c.args.rows.now forms c.args.q same (sym c.in-None-row_at.ensures))

pub returns-in-None-clause-tells : goal.returns-in-None-clause-tells
returns-in-None-clause-tells c forms makes same =
    from_without_first forms c.args.p c.args.q makes (missing_too c.args.rows.now forms c.args.p same (sym c.in-None.ensures))
