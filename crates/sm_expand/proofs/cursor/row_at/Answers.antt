-- The first simple node, or else the last node.
use Rattle.sm_expand.proofs.Imports.{sym, subst, NumberedNode, NumberedPlan, head, IsKeepReady, IsRowOf, numbered_last}
use Rattle.sm_expand.proofs.RowsLemmas.{first_simple, first_none}
use Rattle.sm_expand.proofs.cursor.row_at.Goals as goal

pub returns-in-Some-clause-row : goal.returns-in-Some-clause-row
returns-in-Some-clause-row c = λ sorts trees.
    let at = c.args.cursor.now in
    subst (λ (n : NumberedNode). IsRowOf sorts trees n c.simple_row.result)
    (sym (first_simple at.straight.now c.in-Some.simple.now (numbered_last at.last.now) c.in-Some.ensures.value))
    (c.simple_row.ensures.row sorts trees)

pub returns-in-Some-clause-ready : goal.returns-in-Some-clause-ready
returns-in-Some-clause-ready c = λ sorts trees keep. c.simple_row.ensures.ready sorts trees

pub returns-in-None-clause-row : goal.returns-in-None-clause-row
returns-in-None-clause-row c = λ sorts trees.
    let at = c.args.cursor.now in
    subst (λ (p : NumberedPlan). IsRowOf sorts trees (head p) c.last_row.result)
    (sym (first_none at.straight.now (numbered_last at.last.now) c.in-None.ensures.value)) (c.last_row.ensures.row sorts trees)

pub returns-in-None-clause-ready : goal.returns-in-None-clause-ready
returns-in-None-clause-ready c = λ sorts trees keep.
    let at = c.args.cursor.now in
    c.last_row.ensures.ready sorts trees
    (subst (λ (p : NumberedPlan). IsKeepReady sorts trees (head p))
    (first_none at.straight.now (numbered_last at.last.now) c.in-None.ensures.value) keep)
