-- Cited by public clauses: the mini-product of a hole, move by move.
-- After Sousa, Dillig and Lahiri, "Verified Three-Way Program Merge" (OOPSLA 2018).
use Rattle.std.specs.Prelude.{ℕ, zero, suc, ◌+◌}
use Rattle.sm_syntax.specs.claim.Syntax.{Code}
use Rattle.sm_syntax.specs.claim.ConflictFree.{Copy, O, A, B, M}
use Rattle.sm_syntax.specs.text.Parts.{Parts}
use Rattle.sm_plan.specs.Copies.{Copies, with_copy}
use Rattle.sm_plan.specs.Statements.{rest_after, loop_body}
use Rattle.sm_plan.specs.Nodes.{Step, Abs}
use Rattle.sm_moves.specs.CodeShapes.{by_first_block, by_second_block, statements_in}
use Rattle.sm_moves.specs.CopySets.{members, only_in}
use Rattle.sm_moves.specs.Moves.{Move, Done, Steps, Summaries, Forks, Loops, move_of, moved_on}
use Rattle.sm_template.specs.Templates.{loop_templates}
use Rattle.sm_sketch.specs.Sketches.{Sketch, ends, then_draw, each_of, forking, looped}

-- a move, where `go` draws the mini-product of a set and what follows
abbrev pub drawn : Parts → Copies → (Copy → Code) → Sketch →
    (Copies → (Copy → Code) → Sketch → Sketch) → Move → Sketch
drawn t set rest next go Done = next
drawn t set rest next go (Steps c) =
    then_draw (Step c) (go set (with_copy rest c (rest_after 1 (rest c))) next)
drawn t set rest next go (Summaries left) =
    each_of (λ (c : Copy). Abs c 1) (members left) (go set (moved_on left rest) next)
drawn t set rest next go (Forks c) =
    let one = go set (with_copy rest c (by_first_block (rest c))) next in
    let other = go set (with_copy rest c (by_second_block (rest c))) next in
    forking c one other
drawn t set rest next go (Loops left) =
    looped (loop_templates t left rest) left
    (λ (v : Copies). go v (only_in v (λ (c : Copy). loop_body (rest c))) ends)
    (go set (moved_on left rest) next)

-- the mini-product of a set by at most this many moves, and what follows
abbrev pub mini_product : Parts → ℕ → Copies → (Copy → Code) → Sketch → Sketch
mini_product t zero set rest next = next
mini_product t (suc n) set rest next =
    drawn t set rest next (mini_product t n) (move_of set rest)

-- how many statements are left: each move takes one away
abbrev pub statements_left : (Copy → Code) → ℕ
statements_left rest =
    statements_in (rest O) + statements_in (rest A)
    + statements_in (rest B) + statements_in (rest M)

-- the mini-product of a set, and what follows
abbrev pub side_by_side : Parts → Copies → (Copy → Code) → Sketch → Sketch
side_by_side t set rest next = mini_product t (statements_left rest) set rest next
