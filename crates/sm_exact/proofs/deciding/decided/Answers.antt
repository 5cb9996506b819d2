-- Each turn keeps what the whole is, and the last one tells it.
use Rattle.sm_omega.specs.Exact.{exact}
use Rattle.sm_omega.proofs.LimitLemmas.{exact_answers}
use Rattle.sm_exact.proofs.DecideLemmas.{begins, turns_next, turns_solved, turns_ends}
use Rattle.sm_exact.proofs.deciding.decided.Goals as goal

pub loop-turn-init : goal.loop-turn-init
loop-turn-init c =
    begins c.args.forms.now c.args.steps c.in-Some.above c.in_ok-entry.entry c.new-frames.result.items c.new-frames.ensures.items
    c.in-Some.ensures (c.in_ok-entry.ensures c.args.steps)

pub returns-in-Solved : goal.returns-in-Solved
returns-in-Solved c =
    let whole = exact c.args.forms.now c.args.steps in
    let never = exact_answers c.args.forms.now c.args.steps c.look_at.ensures in
    let turns = c.in_ok-next.ensures whole never c.loop-turn.invariant in
    turns_solved c.args.steps c.turn.new.frames.items whole c.in_ok-next.field-0 c.args.forms.now c.solution.result c.in-Solved.is turns
    c.solution.ensures

pub returns-in-Ends : goal.returns-in-Ends
returns-in-Ends c =
    let whole = exact c.args.forms.now c.args.steps in
    let never = exact_answers c.args.forms.now c.args.steps c.look_at.ensures in
    let turns = c.in_ok-next.ensures whole never c.loop-turn.invariant in
    turns_ends c.args.steps c.turn.new.frames.items whole c.in_ok-next.field-0 c.args.forms.now c.in-Ends.answer c.in-Ends.is turns

pub loop-turn-preserved : goal.loop-turn-preserved
loop-turn-preserved c =
    let whole = exact c.args.forms.now c.args.steps in
    let never = exact_answers c.args.forms.now c.args.steps c.look_at.ensures in
    let turns = c.in_ok-next.ensures whole never c.loop-turn.invariant in
    turns_next c.args.steps c.turn.new.frames.items whole c.in_ok-next.field-0 c.in-Next.next c.in-Next.e c.in-Next.is turns
