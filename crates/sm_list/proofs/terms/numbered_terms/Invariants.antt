use Rattle.sm_list.proofs.Imports.{◌≡◌, take, numbers_of}
use Rattle.sm_list.proofs.terms.numbered_terms.Given as goal

abbrev pub invariant-loop-n : goal.invariant-loop-n
invariant-loop-n l = numbers_of l.list.items ≡ take l.n-index l.numbers
