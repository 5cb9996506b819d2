-- A proof comes with no conflict, and what is found is what the search leaves open.
use Rattle.sm_commands.proofs.Imports.{Option, IfSome, inl, subst, meaning, parts_of, is_spelled, shown_status, ShowsBeyond}
use Rattle.sm_guided.specs.Beyond as guided
use Rattle.sm_guided.specs.declared.beyond.Shown.{Shown}
use Rattle.sm_replies.proofs.WhySaid.{shown_comes, shown_rests}
use Rattle.sm_commands.proofs.deeper.beyond.Goals as goal

pub try_inputs-requires-clause-runs : goal.try_inputs-requires-clause-runs
try_inputs-requires-clause-runs g c κs within = (is_spelled (parts_of c.args.task.now) c.requires.spelled).runs

pub shown_beyond-requires-clause-runs : goal.shown_beyond-requires-clause-runs
shown_beyond-requires-clause-runs g c = (is_spelled (parts_of c.args.task.now) c.requires.spelled).runs

pub shown_beyond-requires-clause-named : goal.shown_beyond-requires-clause-named
shown_beyond-requires-clause-named g c = (is_spelled (parts_of c.args.task.now) c.requires.spelled).named

pub shown_beyond-requires-clause-shown : goal.shown_beyond-requires-clause-shown
shown_beyond-requires-clause-shown g c =
    subst (λ (o : Option Shown). IfSome o (guided.ShowsBeyond (parts_of c.args.task.now) c.args.effort.turns)) c.in-Some.is
    c.in_ok-shown.ensures.shown

pub returns-in-Some-clause-answers : goal.returns-in-Some-clause-answers
returns-in-Some-clause-answers g c = inl c.in_ok-decided-in-Some.ensures.shows

pub returns-in-Some-clause-proof : goal.returns-in-Some-clause-proof
returns-in-Some-clause-proof g c =
    let t = parts_of c.args.task.now in
    let d = c.in_ok-decided-in-Some.decided in
    let by : ShowsBeyond t c.args.effort d.reply.status d.reply.text.items = c.in_ok-decided-in-Some.ensures.shows in
    shown_comes t d.reply.status d.proof c.in_ok-decided-in-Some.ensures.none
    (shown_status t by.number (meaning by.store) by.verdict d.reply.status d.reply.text.items by.shows)

pub returns-in-Some-clause-ground : goal.returns-in-Some-clause-ground
returns-in-Some-clause-ground g c =
    let t = parts_of c.args.task.now in
    let d = c.in_ok-decided-in-Some.decided in
    shown_rests t c.args.effort d.reply.status d.reply.text.items d.ground c.in_ok-decided-in-Some.ensures.ground
