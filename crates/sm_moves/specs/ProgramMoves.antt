-- Cited by public clauses: the moves that those of the program stand for, and how code may begin.
use Rattle.std.specs.Prelude.{Bool, not, ◌&&◌}
use Rattle.sm_syntax.specs.claim.Syntax.{Code}
use Rattle.sm_syntax.specs.claim.ConflictFree.{Copy}
use Rattle.sm_syntax.specs.trees.Copies.{copy_named}
use Rattle.sm_plan.specs.Copies.{Copies, copies_that, has}
use Rattle.sm_plan.specs.Masks.{set_of}
use Rattle.sm_plan.specs.Statements.{is_over, is_loop}
use Rattle.sm_moves.specs.declared.moves.Front.{Front}
use Rattle.sm_moves.specs.declared.moves.Front.TheVariants as front
use Rattle.sm_moves.specs.declared.moves.Move.{Move}
use Rattle.sm_moves.specs.declared.moves.Move.TheVariants as move
use Rattle.sm_moves.specs.CodeShapes.{is_simple, is_fork}
use Rattle.sm_moves.specs.Moves as plain

-- the move that one of the program stands for
abbrev pub move_in : Move → plain.Move
move_in move.Done = plain.Done
move_in (move.Step c) = plain.Steps (copy_named c)
move_in (move.Summaries left) = plain.Summaries (set_of left)
move_in (move.Fork c) = plain.Forks (copy_named c)
move_in (move.Loops left) = plain.Loops (set_of left)

-- whether code begins so
abbrev pub begins : Front → Code → Bool
begins front.Any c = not (is_over c)
begins front.Simple c = is_simple c
begins front.Fork c = is_fork c
begins front.Loop c = is_loop c

-- the copies of a set whose code passes a test
abbrev pub those : Copies → (Code → Bool) → (Copy → Code) → Copies
those set test rest = copies_that (λ (c : Copy). has set c && test (rest c))
