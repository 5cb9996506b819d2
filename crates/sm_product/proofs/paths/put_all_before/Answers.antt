-- The last of the moves that are left is drawn first.
use Rattle.sm_product.proofs.Imports.{List, map, sym, ap, ◌∙◌, subst, Sorts, Tree, move_in, TellsSketch, ProductError, sketch_in, IsSketchReady, move_before, moves_before}
use Rattle.sm_product.proofs.RoomLemmas.{err_is}
use Rattle.sm_product.proofs.StraightLemmas.{popped_before, moves_told}
use Rattle.sm_product.proofs.paths.put_all_before.Goals as goal

pub returns-in_err-sketch-clause-err : goal.returns-in_err-sketch-clause-err
returns-in_err-sketch-clause-err c = λ (sorts : Sorts) (trees : List Tree) (ready : IsSketchReady sorts trees c.args.sketch).
    let p = sketch_in sorts trees c.loop-m.sketch in
    let ms = map move_in c.pop.new.self.items in
    let m = move_in c.in-Some.m in
    let x = c.in_err-sketch.field-0.0 in
    let same = popped_before c.loop-m.moves.items c.pop.new.self.items c.in-Some.m p c.in-Some.ensures.items in
    let told = c.in_err-sketch.ensures.err sorts trees (c.loop-m.invariant.ready sorts trees ready) in
    err_is (λ (e : ProductError). TellsSketch e (moves_before (map move_in c.args.moves.items) (sketch_in sorts trees c.args.sketch)))
    c.from_residual.result x c.from_residual.ensures.1
    (subst (TellsSketch x) (sym same ∙ c.loop-m.invariant.drawn sorts trees) (moves_told ms (move_before m p) x told))

pub loop-m-preserved : goal.loop-m-preserved
loop-m-preserved c = record {
  drawn = λ (sorts : Sorts) (trees : List Tree).
      let p = sketch_in sorts trees c.loop-m.sketch in
      let ms = map move_in c.pop.new.self.items in
      ap (moves_before ms) (c.in_ok-sketch.ensures.drawn sorts trees)
      ∙ sym (popped_before c.loop-m.moves.items c.pop.new.self.items c.in-Some.m p c.in-Some.ensures.items)
      ∙ c.loop-m.invariant.drawn sorts trees;
  ready = λ (sorts : Sorts) (trees : List Tree) (ready : IsSketchReady sorts trees c.args.sketch).
      c.in_ok-sketch.ensures.ready sorts trees (c.loop-m.invariant.ready sorts trees ready);
}
