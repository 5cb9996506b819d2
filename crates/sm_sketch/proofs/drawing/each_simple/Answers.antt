-- The nodes of the copies, one after the other.
use Rattle.sm_sketch.proofs.Imports.{rules, set_of, node_by, sketch_in}
use Rattle.sm_sketch.proofs.LargeSketches.{err_tells, fourth_tells, third_tells, second_tells, each_err}
use Rattle.sm_sketch.proofs.SketchesDrawn.{each_ok}
use Rattle.sm_sketch.proofs.drawing.each_simple.Goals as goal

pub returns-clause-drawn : goal.returns-clause-drawn
returns-clause-drawn c = λ sorts trees.
    each_ok sorts trees (set_of c.args.set) (node_by c.args.way) (sketch_in sorts trees c.args.next)
    (sketch_in sorts trees c.in_ok-next.next) (sketch_in sorts trees c.in_ok-next-2.next) (sketch_in sorts trees c.in_ok-next-3.next)
    (c.in_ok-next.ensures.drawn sorts trees) (c.in_ok-next-2.ensures.drawn sorts trees) (c.in_ok-next-3.ensures.drawn sorts trees)
    c.put_where-4.result (c.put_where-4.ensures.drawn sorts trees)

pub returns-in_err-next-clause-err : goal.returns-in_err-next-clause-err
returns-in_err-next-clause-err c = λ sorts trees ready.
    let e = c.in_err-next.field-0.0 in
    err_tells c.from_residual.result e _ (search rules)
    (fourth_tells (set_of c.args.set) (node_by c.args.way) (sketch_in sorts trees c.args.next) e
    (c.in_err-next.ensures.err sorts trees ready))

pub returns-in_err-next-2-clause-err : goal.returns-in_err-next-2-clause-err
returns-in_err-next-2-clause-err c = λ sorts trees ready.
    let e = c.in_err-next-2.field-0.0 in
    err_tells c.from_residual-in_err-next-2.result e _ (search rules)
    (third_tells (set_of c.args.set) (node_by c.args.way) (sketch_in sorts trees c.args.next) e (sketch_in sorts trees c.in_ok-next.next)
    (c.in_ok-next.ensures.drawn sorts trees)
    (c.in_err-next-2.ensures.err sorts trees (c.in_ok-next.ensures.ready sorts trees ready)))

pub returns-in_err-next-3-clause-err : goal.returns-in_err-next-3-clause-err
returns-in_err-next-3-clause-err c = λ sorts trees ready.
    let e = c.in_err-next-3.field-0.0 in
    err_tells c.from_residual-in_err-next-3.result e _ (search rules)
    (second_tells (set_of c.args.set) (node_by c.args.way) (sketch_in sorts trees c.args.next) e (sketch_in sorts trees c.in_ok-next.next)
    (sketch_in sorts trees c.in_ok-next-2.next) (c.in_ok-next.ensures.drawn sorts trees) (c.in_ok-next-2.ensures.drawn sorts trees)
    (c.in_err-next-3.ensures.err sorts trees (c.in_ok-next-2.ensures.ready sorts trees (c.in_ok-next.ensures.ready sorts trees ready))))

pub returns-clause-err : goal.returns-clause-err
returns-clause-err c = λ sorts trees ready.
    each_err (set_of c.args.set) (node_by c.args.way) (sketch_in sorts trees c.args.next) (sketch_in sorts trees c.in_ok-next.next)
    (sketch_in sorts trees c.in_ok-next-2.next) (sketch_in sorts trees c.in_ok-next-3.next) (c.in_ok-next.ensures.drawn sorts trees)
    (c.in_ok-next-2.ensures.drawn sorts trees) (c.in_ok-next-3.ensures.drawn sorts trees) c.put_where-4.result
    (c.put_where-4.ensures.err sorts trees (c.in_ok-next-3.ensures.ready sorts trees
    (c.in_ok-next-2.ensures.ready sorts trees (c.in_ok-next.ensures.ready sorts trees ready))))
