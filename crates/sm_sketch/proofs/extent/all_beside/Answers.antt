-- One sketch more, or too much so far.
use Rattle.sm_sketch.proofs.Imports.{rules, ◌+◌, ◌∙◌, max, total_nodes, most_branches}
use Rattle.sm_sketch.proofs.ExtentsLemmas.{err_extent, next_all_nodes, next_all_branches, tells_all}
use Rattle.sm_sketch.proofs.extent.all_beside.Goals as goal

pub returns-in_err-all-clause-err : goal.returns-in_err-all-clause-err
returns-in_err-all-clause-err c =
    let ss = c.args.sketches.now in
    let k = c.args.after in
    let all = c.loop-sketch.all in
    let e = c.in_err-all.field-0.0 in
    err_extent c.from_residual.result e (total_nodes ss + k.nodes) (max (most_branches ss) k.branches) (search rules)
    (tells_all e ss c.loop-sketch.sketch-index all.nodes all.branches k.nodes k.branches c.sketch-item.result c.loop-sketch-test.true
    c.sketch-item.is c.loop-sketch.invariant.0 c.loop-sketch.invariant.1 c.in_err-all.ensures.err)

pub loop-sketch-preserved : goal.loop-sketch-preserved
loop-sketch-preserved c =
    let ss = c.args.sketches.now in
    let k = c.args.after in
    let all = c.loop-sketch.all in
    let i = c.loop-sketch.sketch-index in
    let s = c.sketch-item.result in (
      c.in_ok-all.ensures.nodes
          ∙ next_all_nodes ss i all.nodes k.nodes s c.loop-sketch-test.true c.sketch-item.is c.loop-sketch.invariant.0,
      c.in_ok-all.ensures.branches
          ∙ next_all_branches ss i all.branches k.branches s c.loop-sketch-test.true c.sketch-item.is c.loop-sketch.invariant.1,
    )
