use Rattle.sm_replies.proofs.Imports.{rules, subst, Parts, AnswersCheck}
use Rattle.sm_replies.proofs.making.gen_answer.Goals as goal

pub returns : goal.returns
returns g c = record {
  answer = c.in_ok-decided.decided.reply.text.items;
  answers =
      subst (λ (t : Parts). AnswersCheck t c.args.effort c.in_ok-decided.decided.reply.status c.in_ok-decided.decided.reply.text.items)
      c.in_ok-made.ensures.parts c.in_ok-decided.ensures.answers;
  printed = search rules;
}
