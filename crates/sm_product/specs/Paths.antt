-- Cited by public clauses: moves after each of which one state follows, one after the other.
use Rattle.std.specs.Prelude.{◌≡◌, Bool, true, false, List, [], ◌∷◌}
use Rattle.sm_syntax.specs.claim.Syntax.{Code, End}
use Rattle.sm_syntax.specs.claim.ConflictFree.{Copy}
use Rattle.sm_plan.specs.Copies.{Copies, has, with_copy}
use Rattle.sm_plan.specs.Nodes.{Step, Abs}
use Rattle.sm_plan.specs.Statements.{rest_after}
use Rattle.sm_moves.specs.CodeShapes.{has_hole, by_first_block}
use Rattle.sm_moves.specs.CopySets.{members}
use Rattle.sm_moves.specs.Moves.{Move, Done, Steps, Summaries, Forks, Loops, moved_on}
use Rattle.sm_sketch.specs.Sketches.{Sketch, then_draw, each_of}

-- code of a set's copies that has no hole, and nothing for the others
pub record IsFilled (set : Copies) (code : Copy → Code) : Type 0 where
  pub no_hole : (c : Copy) → has_hole (code c) ≡ false
  pub outside : (c : Copy) → has set c ≡ false → code c ≡ End

-- whether one state follows a move
abbrev pub is_straight : Move → Bool
is_straight Done = false
is_straight (Steps c) = true
is_straight (Summaries left) = true
is_straight (Forks c) = false
is_straight (Loops left) = false

-- what is left in the state that follows
abbrev pub after_move : Move → (Copy → Code) → Copy → Code
after_move Done code = code
after_move (Steps c) code = with_copy code c (rest_after 1 (code c))
after_move (Summaries left) code = moved_on left code
after_move (Forks c) code = code
after_move (Loops left) code = code

-- the nodes of such a move, and what follows
abbrev pub move_before : Move → Sketch → Sketch
move_before Done next = next
move_before (Steps c) next = then_draw (Step c) next
move_before (Summaries left) next = each_of (λ (c : Copy). Abs c 1) (members left) next
move_before (Forks c) next = next
move_before (Loops left) next = next

-- those of such moves, one after the other, and what follows
abbrev pub moves_before : List Move → Sketch → Sketch
moves_before [] next = next
moves_before (m ∷ rest) next = move_before m (moves_before rest next)

-- what is left where a copy takes the first block of its fork
abbrev pub first_taken : (Copy → Code) → Copy → Copy → Code
first_taken code c = with_copy code c (by_first_block (code c))
