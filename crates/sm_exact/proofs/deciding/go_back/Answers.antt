-- The last frame is what waited.
use Rattle.sm_exact.proofs.TurnLemmas.{last_taken}
use Rattle.sm_exact.proofs.deciding.go_back.Goals as goal

pub returns-in-Some : goal.returns-in-Some
returns-in-Some c =
    last_taken c.args.steps c.args.count c.args.frames.now.items c.pop.new.self.items c.go_back_to.new.frames.items c.in-Some.frame
    c.go_back_to.result c.in-Some.ensures.items c.go_back_to.ensures
