use Rattle.sm_solve.proofs.Imports.{◌++◌, length, subst, with_parts, ShowsEnd}
use Rattle.sm_solve.proofs.WalkingLemmas.{led_closes}
use Rattle.sm_solve.proofs.ending.led_end.Goals as goal

pub returns-in_ok-led-in-Closed-clause-shows : goal.returns-in_ok-led-in-Closed-clause-shows
returns-in_ok-led-in-Closed-clause-shows c = λ sorts trees room before last place are shows.
    let closes = subst (ShowsEnd sorts trees (before ++ with_parts last) room) c.in-Closed.is shows in
    led_closes sorts trees c.args.facts.now c.args.from room before last c.in-Closed.tree c.in_ok-led-in-Closed.led place are
    (c.in_ok-led-in-Closed.ensures.tree trees) (c.in_ok-led-in-Closed.ensures.within (length trees) closes.within) closes
