use Rattle.sm_suggest.proofs.Imports.{◌-◌, ◌/◌, ◌++◌, List, map, reverse, ap, ◌∙◌, CopyName, copy_named, choices}
use Rattle.sm_suggest.proofs.ChoicesLemmas.{digit_taken}
use Rattle.sm_suggest.proofs.choosing.choices.Goals as goal

pub loop-left-preserved : goal.loop-left-preserved
loop-left-preserved c =
    let left = c.loop-left.left in
    let rest = c.loop-left.rest in
    ap (λ (xs : List CopyName). choices (left - 1) (rest / 3) ++ map copy_named (reverse xs)) c.in_ok-push.ensures.items
    ∙ digit_taken left rest c.loop-left.copies.items c.copy_of_digit.result c.loop-left-test.true c.copy_of_digit.ensures
    ∙ c.loop-left.invariant
