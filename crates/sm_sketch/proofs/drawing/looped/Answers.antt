-- Loops before their turns and what follows.
use Rattle.sm_sketch.proofs.Imports.{◌∙◌, ◌+◌, ℕ, max, rules, ap, arith, roll-Sketches, total_nodes, most_branches}
use Rattle.sm_sketch.proofs.LargeSketches.{err_tells}
use Rattle.sm_sketch.proofs.SketchEnds.{loop_end, rolled_are}
use Rattle.sm_sketch.proofs.SketchesDrawn.{loops_drawn, loops_ready, loops_err}
use Rattle.sm_sketch.proofs.drawing.looped.Goals as goal

pub returns-clause-drawn : goal.returns-clause-drawn
returns-clause-drawn c = λ sorts trees turn each.
    let turns = roll-Sketches (record { list = c.args.turns }) in
    loops_drawn sorts trees _ c.args.set c.args.templates.list.items c.args.turns.items c.args.after turn c.no_simples.ensures
    (loop_end c.args.set c.in_ok-templates.templates turns c.in_ok-after.after c.args.templates c.args.turns.items c.args.after
    (search rules) (rolled_are c.args.turns) (search rules)) each

pub returns-clause-ready : goal.returns-clause-ready
returns-clause-ready c = λ sorts trees few forms each last.
    let turns = roll-Sketches (record { list = c.args.turns }) in
    let after = c.args.after.extent in
    loops_ready sorts trees _ c.args.set c.args.templates.list.items c.args.turns.items c.args.after c.no_simples.ensures
    (loop_end c.args.set c.in_ok-templates.templates turns c.in_ok-after.after c.args.templates c.args.turns.items c.args.after
    (search rules) (rolled_are c.args.turns) (search rules))
    (c.in_ok-extent.ensures.nodes ∙ ap (λ (m : ℕ). m + after.nodes + 1) (ap total_nodes c.as_slice.ensures.value))
    (c.in_ok-extent.ensures.branches ∙ ap (λ (m : ℕ). max m after.branches + 1) (ap most_branches c.as_slice.ensures.value))
    (few, forms) each last

pub returns-in_err-extent-clause-err : goal.returns-in_err-extent-clause-err
returns-in_err-extent-clause-err c = λ sorts trees turn same each last.
    let e = c.in_err-extent.field-0.0 in
    let ss = c.as_slice.result.now in
    let many = ap total_nodes c.as_slice.ensures.value in
    let deep = ap most_branches c.as_slice.ensures.value in
    err_tells c.from_residual.result e _ (search rules)
    (loops_err sorts trees e c.args.set c.args.templates.list.items c.args.turns.items c.args.after turn
    (total_nodes ss + c.args.after.extent.nodes + 1) (max (most_branches ss) c.args.after.extent.branches + 1) same (omega (arith, many))
    (omega (arith, deep)) each last c.in_err-extent.ensures.err)
