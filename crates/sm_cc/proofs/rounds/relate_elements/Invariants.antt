-- What was passed is settled, or entries were added.
use Rattle.sm_cc.proofs.Imports.{ℕ, ◌<◌, Tries, IsElementSettled}
use Rattle.sm_cc.specs.declared.closure.Closure.{Closure}
use Rattle.sm_cc.proofs.rounds.relate_elements.Given as goal

abbrev pub invariant-loop-i : goal.invariant-loop-i
invariant-loop-i l = Tries (λ (d : Closure). (m : ℕ) → m < l.i → IsElementSettled m d) l.fn.c l.c
