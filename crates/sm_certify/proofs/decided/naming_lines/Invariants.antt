-- The terms up to the next are named.
use Rattle.sm_certify.proofs.Imports.{[], take, StandInOrder, branch_of}
use Rattle.sm_certify.proofs.decided.naming_lines.Given as goal

abbrev pub invariant-loop-n : goal.invariant-loop-n
invariant-loop-n l =
    let b = branch_of l.table l.facts in
    StandInOrder b (take l.n b.terms) l.lines.items []
