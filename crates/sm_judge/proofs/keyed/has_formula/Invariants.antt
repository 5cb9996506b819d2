-- None of the formulas before is the same.
use Rattle.sm_judge.proofs.Imports.{◌≡◌, drop, list_any, numbered, all_numbered, same_numbered}
use Rattle.sm_judge.proofs.keyed.has_formula.Given as goal

abbrev pub invariant-loop-g : goal.invariant-loop-g
invariant-loop-g l =
    list_any (same_numbered (numbered l.f)) (all_numbered (drop l.g-index l.list))
    ≡ list_any (same_numbered (numbered l.f)) (all_numbered l.list)
