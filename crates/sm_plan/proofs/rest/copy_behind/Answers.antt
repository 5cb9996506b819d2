-- All statements are copied.
use Rattle.sm_plan.proofs.Imports.{map, ap, ◌∙◌, ◌++◌, take_all, Code, sequence, statement_of}
use Rattle.sm_plan.proofs.RestsLemmas.{sequence_append}
use Rattle.sm_plan.proofs.rest.copy_behind.Goals as goal

pub returns : goal.returns
returns c = λ (k : Code).
    let before = map statement_of c.args.list.now.items in
    ap (λ l. sequence l k)
    (c.loop-s.invariant ∙ ap (λ l. before ++ map statement_of l) (take_all c.loop-s.s-index c.args.more.now c.loop-s-test.false))
    ∙ sequence_append before (map statement_of c.args.more.now) k
