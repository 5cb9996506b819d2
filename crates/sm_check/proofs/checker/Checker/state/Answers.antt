-- A proof is done where its version line is taken and nothing is pending.
use Rattle.sm_check.proofs.CheckerLemmas.{done_told, more_told, unopened_told}
use Rattle.sm_check.proofs.checker.Checker.state.Goals as goal
use Rattle.sm_check.proofs.checker.Checker.state.Goals.{else-self-via-then-self+else-is_done, else-self-via-else-self}

pub returns-then-is_done : goal.returns-then-is_done
returns-then-is_done c = λ s at is.
    done_told c.args.self.now s at is c.if-self.true c.is_done.result (λ p walks. c.is_done.ensures p walks) c.if-is_done.true

pub returns-else-self : goal.returns-else-self
returns-else-self c = λ s at is.
    elim c.else-self.branch [
      | else-self-via-then-self+else-is_done w ↦
          more_told c.args.self.now s at is w.if-self.true w.is_done.result (λ p walks. w.is_done.ensures p walks) w.if-is_done.false
      | else-self-via-else-self w ↦ unopened_told c.args.self.now s at is w.if-self.false
    ]
