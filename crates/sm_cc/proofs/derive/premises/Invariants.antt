-- The arguments that were passed have their equations.
use Rattle.sm_cc.proofs.Imports.{take, AddsPremises, arguments_at}
use Rattle.sm_cc.proofs.derive.premises.Given as goal

abbrev pub invariant-loop-k : goal.invariant-loop-k
invariant-loop-k l =
    AddsPremises l.fn.c l.c l.numbers.items (take l.k (arguments_at l.fn.c l.i)) (take l.k (arguments_at l.fn.c l.j))
