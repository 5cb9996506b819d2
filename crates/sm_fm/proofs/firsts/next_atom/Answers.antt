use Rattle.sm_fm.proofs.Imports.{◌≡◌, ◌≢◌, ⊎_elim, [], get_or, ap, ◌∙◌, arith, tests, cases_eq, lists_in}
use Rattle.sm_fm.proofs.FirstLemmas.{empty_list}
use Rattle.sm_fm.proofs.firsts.next_atom.Goals as goal

pub loop-next-preserved : goal.loop-next-preserved
loop-next-preserved c = λ a after below.
    let next = c.loop-next.next in
    ⊎_elim
    (λ (same : a ≡ next).
    ap (λ b. get_or (lists_in c.args.firsts.now) b []) same
    ∙ empty_list c.args.firsts.now next c.index-firsts-next.result (omega arith) c.index-firsts-next.is (grind (arith, tests)))
    (λ (other : a ≢ next). c.loop-next.invariant a after (omega arith))
    (cases_eq a next)
