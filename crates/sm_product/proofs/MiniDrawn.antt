-- The mini-product, from its straight moves and the move behind them.
use Rattle.sm_product.proofs.Imports.{◌≡◌, ◌<◌, List, ap, sym, ◌∙◌, subst, arith, Code, Copy, Parts, Copies, move_of, TellsSketch, ProductError, sketch_size, sketch_depth, Room, drawn, side_by_side, IsFilled, moves_before, IsRoom, TellsBeyond}
use Rattle.sm_moves.specs.Moves.{Move}
use Rattle.sm_sketch.specs.Sketches.{Sketch}
use Rattle.sm_product.proofs.RoomLemmas.{part_beyond, limit_beyond}
use Rattle.sm_product.proofs.StraightLemmas.{one_drawn, moves_grow}

module _ (t : Parts) (set : Copies) (old new : Copy → Code) (next : Sketch) (ms : List Move) (m : Move) (is : IsFilled set new)
    (last : m ≡ move_of set new) (path : side_by_side t set old next ≡ moves_before ms (side_by_side t set new next)) where
  abbrev below : Sketch
  below = drawn t set new next (side_by_side t) m

  whole_is : side_by_side t set old next ≡ moves_before ms below
  whole_is = path ∙ ap (moves_before ms) (one_drawn t set new next m is last)

  -- what is drawn
  pub all_drawn : (s p : Sketch) → p ≡ below → s ≡ moves_before ms p → s ≡ side_by_side t set old next
  all_drawn s p e f = f ∙ ap (moves_before ms) e ∙ sym whole_is

  -- no room for the last move, and so none for all
  pub last_beyond : (r : Room) (e : ProductError) → TellsBeyond r e below → TellsBeyond r e (side_by_side t set old next)
  last_beyond r e h =
      let grows = moves_grow ms below in
      subst (TellsBeyond r e) (sym whole_is)
      (part_beyond r r below (moves_before ms below) e (λ (g : r.nodes < sketch_size below). omega (arith, g, grows.nodes))
      (λ (g : r.branches < sketch_depth below). omega (arith, g, grows.branches)) h)

  -- too large with all moves
  pub all_beyond : (r : Room) (e : ProductError) (p : Sketch) → IsRoom r → p ≡ below → TellsSketch e (moves_before ms p) →
      TellsBeyond r e (side_by_side t set old next)
  all_beyond r e p room same h =
      subst (TellsBeyond r e) (ap (moves_before ms) same ∙ sym whole_is) (limit_beyond r (moves_before ms p) e room h)
