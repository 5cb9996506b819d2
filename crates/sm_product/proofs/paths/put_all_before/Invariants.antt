-- What is drawn so far, behind the moves that are left.
use Rattle.sm_product.proofs.Imports.{◌≡◌, List, map, vec_len, Sorts, Tree, move_in, sketch_in, IsSketchReady, moves_before}
use Rattle.sm_product.proofs.paths.put_all_before.Given as goal

abbrev pub invariant-loop-m : goal.invariant-loop-m
invariant-loop-m l = record {
  drawn : (sorts : Sorts) (trees : List Tree) →
      moves_before (map move_in l.moves.items) (sketch_in sorts trees l.sketch)
      ≡ moves_before (map move_in l.initial.moves.items) (sketch_in sorts trees l.initial.sketch);
  ready : (sorts : Sorts) (trees : List Tree) → IsSketchReady sorts trees l.initial.sketch → IsSketchReady sorts trees l.sketch;
}

abbrev pub decreases-loop-m : goal.decreases-loop-m
decreases-loop-m l = vec_len l.moves
