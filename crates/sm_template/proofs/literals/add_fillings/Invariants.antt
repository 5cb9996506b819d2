-- The literals of the first fillings are taken.
use Rattle.sm_template.proofs.Imports.{◌≡◌, take, with_literals, literals_filled}
use Rattle.sm_template.proofs.LiteralsLemmas.{filled_by}
use Rattle.sm_template.proofs.literals.add_fillings.Given as goal

abbrev pub invariant-loop-f : goal.invariant-loop-f
invariant-loop-f l =
    l.list.items ≡ with_literals l.fn.list.items (literals_filled (filled_by (take l.f-index l.f-items)))
