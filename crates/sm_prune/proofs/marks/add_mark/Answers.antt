use Rattle.sm_prune.proofs.ToldLemmas.{mark_more}
use Rattle.sm_prune.proofs.marks.add_mark.Goals as goal

pub returns : goal.returns
returns c = λ at marks. mark_more at c.args.marks.now.items c.push.new.self.items c.in_ok-push.ensures.items marks
