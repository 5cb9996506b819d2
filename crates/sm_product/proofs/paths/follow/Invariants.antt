-- The mini-product is the moves so far and that of what is left.
use Rattle.sm_product.proofs.Imports.{◌≡◌, ◌≤◌, map, Copy, Parts, Sorts, IsWellSorted, set_of, move_of, IsMoveWithin, codes_in, move_in, side_by_side, statements_left, IsFilled, moves_before}
use Rattle.sm_sketch.specs.Sketches.{Sketch}
use Rattle.sm_product.proofs.paths.follow.Given as goal

abbrev pub invariant-loop-moves : goal.invariant-loop-moves
invariant-loop-moves l = record {
  drawn : (t : Parts) (next : Sketch) →
      side_by_side t (set_of l.set) (codes_in l.initial.rests) next
      ≡ moves_before (map move_in l.moves.items) (side_by_side t (set_of l.set) (codes_in l.rests) next);
  last : move_in l.last ≡ move_of (set_of l.set) (codes_in l.rests);
  within : IsMoveWithin l.last;
  filled : IsFilled (set_of l.set) (codes_in l.rests);
  fewer : statements_left (codes_in l.rests) ≤ statements_left (codes_in l.initial.rests);
  sorted : (sorts : Sorts) → ((c : Copy) → IsWellSorted sorts (codes_in l.initial.rests c)) →
      (c : Copy) → IsWellSorted sorts (codes_in l.rests c);
}

abbrev pub decreases-loop-moves : goal.decreases-loop-moves
decreases-loop-moves l = statements_left (codes_in l.rests)
