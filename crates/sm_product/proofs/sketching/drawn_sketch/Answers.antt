-- The product of all copies, where it isn't too large.
use Rattle.sm_product.proofs.Imports.{◌≡◌, ◌<◌, ◌≤◌, ℕ, inl, inr, ap, ◌∙◌, subst, parts_of, TellsSketch, ProductError, sketch_size, sketch_depth, sketch_of}
use Rattle.sm_sketch.specs.declared.error.ProductError.TheVariants as error
use Rattle.sm_sketch.specs.Sketches as plain
use Rattle.sm_sketch.specs.Extents.{TellsExtent}
use Rattle.sm_product.proofs.DrawnLemmas.{err_is}
use Rattle.sm_product.proofs.sketching.drawn_sketch.Goals as goal

-- an extent that is too large tells so of the sketch that has it
told_of : (e : ProductError) (n b : ℕ) (p : plain.Sketch) → n ≡ sketch_size p → b ≡ sketch_depth p → TellsExtent e n b → TellsSketch e p
told_of error.TooMany n b p nodes branches (inl h) = inl (subst (λ (m : ℕ). 200000 < m) nodes h)
told_of error.TooMany n b p nodes branches (inr h) = inr (subst (λ (m : ℕ). 1000 < m) branches h)
told_of error.Memory n b p nodes branches h = tt

pub returns-in_err-sketch-clause-err : goal.returns-in_err-sketch-clause-err
returns-in_err-sketch-clause-err c =
    err_is (λ (e : ProductError). TellsSketch e (sketch_of (parts_of c.args.task.now))) c.from_residual.result c.in_err-sketch.field-0.0
    c.from_residual.ensures.1 c.in_err-sketch.ensures.drawn

pub returns-in_err-within_limits-clause-err : goal.returns-in_err-within_limits-clause-err
returns-in_err-within_limits-clause-err c =
    let t = parts_of c.args.task.now in
    let s = c.in_ok-sketch.sketch in
    let x = c.in_err-within_limits.field-0.0 in
    let d = c.in_ok-sketch.ensures.drawn in
    err_is (λ (e : ProductError). TellsSketch e (sketch_of t)) c.from_residual-in_err-within_limits.result x c.from_residual-in_err-within_limits.ensures.1
    (told_of x s.extent.nodes s.extent.branches (sketch_of t) (d.1.nodes ∙ ap sketch_size d.0)
    (d.1.branches ∙ ap sketch_depth d.0) c.in_err-within_limits.ensures.err)

pub returns-clause-ok : goal.returns-clause-ok
returns-clause-ok c = c.in_ok-sketch.ensures.drawn.0

pub returns-clause-fits : goal.returns-clause-fits
returns-clause-fits c =
    let d = c.in_ok-sketch.ensures.drawn in
    let few = c.in_ok-within_limits.ensures in (
      subst (λ (n : ℕ). n ≤ 200000) (d.1.nodes ∙ ap sketch_size d.0) few.nodes,
      subst (λ (n : ℕ). n ≤ 1000) (d.1.branches ∙ ap sketch_depth d.0) few.branches,
    )
