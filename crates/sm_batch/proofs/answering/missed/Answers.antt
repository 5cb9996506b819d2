use Rattle.sm_batch.proofs.Imports.{◌<◌, ◌∙◌, map, is_some, sym, ap, subst, Bor, Task, Looked}
use Rattle.sm_batch.proofs.TellLemmas.{missed_hit}
use Rattle.sm_batch.proofs.answering.missed.Goals as goal

pub loop-i-preserved-then-is_some : goal.loop-i-preserved-then-is_some
loop-i-preserved-then-is_some c =
    missed_hit (map (λ (b : Bor Task). b.now) c.loop-i.wanted.items) c.args.tasks.now c.args.looked.now c.loop-i.i c.index-tasks-i.result
    c.index-looked-i.result c.loop-i-test.true (subst (λ n. c.loop-i.i < n) c.requires c.loop-i-test.true) c.index-tasks-i.is c.index-looked-i.is
    (ap (λ (l : Looked). is_some l.reply) c.index-looked-i.is ∙ sym c.is_some.ensures ∙ c.if-is_some.true) c.loop-i.invariant
