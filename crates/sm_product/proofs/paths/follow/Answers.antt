-- One move more.
use Rattle.sm_product.proofs.Imports.{◌≡◌, true, List, [], ◌∷◌, map, ap, sym, ◌∙◌, subst, arith, map-append, fun_ext, Code, Copy, Parts, Sorts, IsWellSorted, set_of, codes_in, move_in, side_by_side, statements_left, IsFilled, is_straight, after_move, moves_before}
use Rattle.sm_moves.specs.Moves.{Move}
use Rattle.sm_sketch.specs.Sketches.{Sketch}
use Rattle.sm_product.proofs.StraightLemmas.{straight_leaves, straight_sorted, path_more}
use Rattle.sm_product.proofs.paths.follow.Goals as goal

pub loop-moves-preserved : goal.loop-moves-preserved
loop-moves-preserved c =
    let was = c.loop-moves.invariant in
    let set = set_of c.args.set in
    let r = codes_in c.loop-moves.rests in
    let m = move_in c.loop-moves.last in
    let one : is_straight m ≡ true = sym c.opens_one.ensures ∙ c.loop-moves-test.true in
    let same : codes_in c.go_on.new.rests ≡ after_move m r = fun_ext c.go_on.ensures in
    let leaves = straight_leaves set r m was.filled one was.last in
    record {
      drawn = λ (t : Parts) (next : Sketch).
          let whole = side_by_side t set (codes_in c.args.rests.now) next in
          let ms = map move_in c.loop-moves.moves.items in
          path_more t set r next ms m whole was.filled one was.last (was.drawn t next)
          ∙ ap (λ (l : List Move). moves_before l (side_by_side t set (after_move m r) next))
          (sym (ap (map move_in) c.in_ok-push.ensures.items ∙ map-append move_in c.loop-moves.moves.items (c.loop-moves.last ∷ [])))
          ∙ ap (λ (code : Copy → Code). moves_before (map move_in c.push.new.self.items) (side_by_side t set code next)) (sym same);
      last = c.move_of-last-in-loop-moves.ensures.made;
      within = c.move_of-last-in-loop-moves.ensures.within;
      filled = subst (IsFilled set) (sym same) leaves.0;
      fewer = let less = ap statements_left same in omega (arith, was.fewer, leaves.1, less);
      sorted = λ (sorts : Sorts) (well : (d : Copy) → IsWellSorted sorts (codes_in c.args.rests.now d)).
          subst (λ (code : Copy → Code). (d : Copy) → IsWellSorted sorts (code d)) (sym same)
          (straight_sorted sorts r m (was.sorted sorts well));
    }

pub loop-moves-smaller : goal.loop-moves-smaller
loop-moves-smaller c =
    let was = c.loop-moves.invariant in
    let set = set_of c.args.set in
    let r = codes_in c.loop-moves.rests in
    let m = move_in c.loop-moves.last in
    let one : is_straight m ≡ true = sym c.opens_one.ensures ∙ c.loop-moves-test.true in
    let same = ap statements_left (fun_ext c.go_on.ensures) in
    let less = (straight_leaves set r m was.filled one was.last).1 in
    omega (arith, same, less)
