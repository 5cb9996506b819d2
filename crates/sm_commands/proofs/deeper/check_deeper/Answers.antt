-- What is found beyond the search is an answer.
use Rattle.sm_commands.proofs.Imports.{Option, IfSome, inr, subst, parts_of, GoesBeyond, RestsOn}
use Rattle.sm_replies.specs.declared.decided.Decided.{Decided}
use Rattle.sm_commands.proofs.deeper.check_deeper.Goals as goal

pub returns-in-Some-clause-answers : goal.returns-in-Some-clause-answers
returns-in-Some-clause-answers g c =
    let t = parts_of c.args.task.now in
    inr (subst (λ (o : Option Decided). IfSome o (λ d. GoesBeyond t c.args.effort d.reply.status d.reply.text.items)) c.in-Some.is
    c.in_ok-more.ensures.answers)

pub returns-in-Some-clause-ground : goal.returns-in-Some-clause-ground
returns-in-Some-clause-ground g c =
    let t = parts_of c.args.task.now in
    subst (λ (o : Option Decided). IfSome o (λ d. RestsOn t c.args.effort d.reply.status d.reply.text.items d.ground)) c.in-Some.is
    c.in_ok-more.ensures.ground
