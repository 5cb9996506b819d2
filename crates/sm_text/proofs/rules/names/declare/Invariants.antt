use Rattle.sm_text.proofs.Imports.{◌≡◌, ◌++◌, take, with_sort, numbers_of, entries_of}
use Rattle.sm_text.proofs.rules.names.declare.Given as goal

abbrev pub invariant-names : goal.invariant-names
invariant-names l = entries_of l.list.items ≡ entries_of l.fn.list.items ++ with_sort l.sort (numbers_of (take l.name-index l.names))
