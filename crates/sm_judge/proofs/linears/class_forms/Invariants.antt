-- What is collected of the pairs that are left is what is collected of all.
use Rattle.sm_judge.proofs.Imports.{◌≡◌, drop, [], class_items, collected, held}
use Rattle.sm_judge.proofs.linears.class_forms.Given as goal

abbrev pub invariant-loop-pair : goal.invariant-loop-pair
invariant-loop-pair l =
    collected (class_items l.forms (drop l.pair-index l.pairs)) (held l.made) ≡ collected (class_items l.forms l.pairs) ([], [])
