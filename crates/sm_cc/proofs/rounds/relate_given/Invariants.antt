-- What was passed is settled, or entries were added.
use Rattle.sm_cc.proofs.Imports.{ℕ, ◌<◌, Tries, IsGivenSettled}
use Rattle.sm_cc.specs.declared.closure.Closure.{Closure}
use Rattle.sm_cc.proofs.rounds.relate_given.Given as goal

abbrev pub invariant-loop-k : goal.invariant-loop-k
invariant-loop-k l = Tries (λ (d : Closure). (m : ℕ) → m < l.k → IsGivenSettled m d) l.fn.c l.c
