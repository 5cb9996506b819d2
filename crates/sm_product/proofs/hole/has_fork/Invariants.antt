-- No statement so far is an if.
use Rattle.sm_product.proofs.Imports.{◌≡◌, drop, End, code_of, code_before, has_fork}
use Rattle.sm_product.proofs.hole.has_fork.Given as goal

abbrev pub invariant-loop-s : goal.invariant-loop-s
invariant-loop-s l = has_fork (code_before (drop l.s-index l.s-items) End) ≡ has_fork (code_of l.block)
