-- The facts and arguments that are left say what all of them say.
use Rattle.sm_euf.proofs.Imports.{◌≡◌, List, drop, trees_in, sorts_in, BranchFact, say_equal, AllStand, argument_numbers, trees_of}
use Rattle.sm_euf.proofs.congruence.equal_arguments.Given as goal

abbrev pub invariant-loop-i : goal.invariant-loop-i
invariant-loop-i l =
    let trees = trees_in l.table in
    (facts : List BranchFact) → AllStand (sorts_in l.table) trees l.branch.list.items facts →
    say_equal facts l.numbers (trees_of trees (argument_numbers l.t)) (trees_of trees (argument_numbers l.u))
    ≡ say_equal facts (drop l.i l.numbers)
    (trees_of trees (drop l.i (argument_numbers l.t))) (trees_of trees (drop l.i (argument_numbers l.u)))
