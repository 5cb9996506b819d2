-- What the checker keeps of its version is what the proof says.
use Rattle.sm_check.proofs.CheckerLemmas.{parts_at}
use Rattle.sm_check.proofs.checker.Checker.reads_exact.Goals as goal

pub returns : goal.returns
returns c = λ s at is. (parts_at c.args.self.now s at is).3
