-- The kinds with the first literals are there.
use Rattle.sm_template.proofs.Imports.{◌≡◌, ◌++◌, take, above_any}
use Rattle.sm_template.proofs.shapes.put_above.Given as goal

abbrev pub invariant-loop-v : goal.invariant-loop-v
invariant-loop-v l = l.list.items ≡ l.fn.list.items ++ above_any (take l.v-index l.literals) (l.c, l.d)
