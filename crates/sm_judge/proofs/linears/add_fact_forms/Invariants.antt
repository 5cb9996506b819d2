-- What is collected of the facts that are left is what is collected of all.
use Rattle.sm_judge.proofs.Imports.{◌≡◌, drop, fact_items, collected, held}
use Rattle.sm_judge.proofs.linears.add_fact_forms.Given as goal

abbrev pub invariant-loop-i : goal.invariant-loop-i
invariant-loop-i l =
    collected (fact_items l.forms l.i (drop l.i l.facts)) (held l.made) ≡ collected (fact_items l.forms 0 l.facts) (held l.fn.made)
