-- The trees so far are those of as many outputs.
use Rattle.sm_sided.proofs.Imports.{◌≡◌, List, map, Tree, certificate_in, whole_certificates}
use Rattle.sm_sided.proofs.whole.trees_of.Given as goal

abbrev pub invariant-loop-output : goal.invariant-loop-output
invariant-loop-output l = (ts : List Tree) → map (certificate_in ts) l.list.items ≡ whole_certificates l.change l.n l._output-index
