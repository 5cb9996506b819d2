-- The plan is ready by how it ends.
use Rattle.sm_drawing.proofs.Imports.{List, map, sym, subst, Over, plans_before, ArePlansReady, numbered_plan, Plan}
use Rattle.sm_drawing.proofs.ReadyPlans.{plan_ready, fork_ready, loop_ready, turns_more}
use Rattle.sm_drawing.proofs.trees.+draw.Goals as goal

pub draw_works-returns : goal.draw_works-returns
draw_works-returns t c = λ sorts trees. plan_ready sorts trees _ (c.in_ok-last.ensures sorts trees)

pub draw_side-returns : goal.draw_side-returns
draw_side-returns t c = λ sorts trees. c.boxed.ensures sorts trees (c.in_ok-plan.ensures sorts trees)

pub draw_after-returns : goal.draw_after-returns
draw_after-returns t c = λ sorts trees. c.boxed.ensures sorts trees (c.in_ok-plan.ensures sorts trees)

pub draw_fork-returns : goal.draw_fork-returns
draw_fork-returns t c = λ sorts trees.
    fork_ready sorts trees c.number.result c.in_ok-yes.yes c.in_ok-no.no (c.in_ok-yes.ensures sorts trees) (c.in_ok-no.ensures sorts trees)

pub draw_loops-returns : goal.draw_loops-returns
draw_loops-returns t c = λ sorts trees.
    loop_ready sorts trees c.args.loops.now.set c.in_ok-turns.turns c.in_ok-after.after (c.in_ok-turns.ensures sorts trees)
    (c.in_ok-after.ensures sorts trees)

pub draw_turns-loop-mask-init : goal.draw_turns-loop-mask-init
draw_turns-loop-mask-init t c = λ sorts trees.
    subst (λ (ps : List Plan). ArePlansReady sorts trees (plans_before (map numbered_plan ps) Over)) (sym c.new-turns.ensures.items) tt

pub draw_turn-returns : goal.draw_turn-returns
draw_turn-returns t c = λ sorts trees ready.
    subst (λ (ps : List Plan). ArePlansReady sorts trees (plans_before (map numbered_plan ps) Over)) (sym c.in_ok-push.ensures.items)
    (turns_more sorts trees c.args.turns.now.items c.in_ok-turn.turn ready (c.in_ok-turn.ensures sorts trees))
