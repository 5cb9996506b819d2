-- Cited by public clauses: how the copies of a set go on where their code differs.
use Rattle.std.specs.Prelude.{◌==◌, nat_le, Bool, not, ◌&&◌, ◌||◌, if◌then◌else◌, Option, Some, None, is_some, map, length, find}
use Rattle.sm_syntax.specs.claim.Syntax.{Code}
use Rattle.sm_syntax.specs.claim.ConflictFree.{Copy}
use Rattle.sm_plan.specs.Copies.{Copies, copies_that, has, is_inhabited}
use Rattle.sm_plan.specs.Statements.{is_over, front, rest_after, is_loop}
use Rattle.sm_moves.specs.CodeShapes.{is_simple, is_fork, are_same}
use Rattle.sm_moves.specs.CopySets.{members}

-- what the copies of a set do next: nothing is left; one of them takes a step; some summarize their
-- first statement, which is the same; one of them forks; the loops of some run together
pub data Move : Type 0 where
  Done : Move
  Steps : Copy → Move
  Summaries : Copies → Move
  Forks : Copy → Move
  Loops : Copies → Move

-- the copies of a set that have something left
abbrev pub left_in : Copies → (Copy → Code) → Copies
left_in set rest = copies_that (λ (c : Copy). has set c && not (is_over (rest c)))

-- the least copy of a set whose code passes a test
abbrev pub first_in : Copies → (Code → Bool) → (Copy → Code) → Option Copy
first_in set test rest = find (λ (c : Copy). test (rest c)) (members set)

-- whether the code of a set's copies is all the same
abbrev pub is_shared : Copies → (Copy → Code) → Bool
is_shared set code = are_same (map code (members set))

-- whether all that have something left begin with the same statement, which is a loop, is that of
-- two or more, or is that of a copy alone
abbrev pub are_alike : Copies → Copies → (Copy → Code) → Bool
are_alike set left rest =
    is_shared left (λ (c : Copy). front 1 (rest c))
    && (is_some (first_in left is_loop rest)
    || (nat_le 2 (length (members left)) || length (members set) == 1))

-- a move of a copy, where there is one, or else another move
abbrev pub move_or : (Copy → Move) → Option Copy → Move → Move
move_or move None other = other
move_or move (Some c) other = move c

-- the move of a set, where some of it have something left
abbrev pub next_move : Copies → Copies → (Copy → Code) → Move
next_move set left rest =
    let branching = move_or Forks (first_in left is_fork rest) (Loops left) in
    let composed = if are_alike set left rest then Summaries left else branching in
    move_or Steps (first_in left is_simple rest) composed

-- the move of a set
abbrev pub move_of : Copies → (Copy → Code) → Move
move_of set rest =
    let left = left_in set rest in if is_inhabited left then next_move set left rest else Done

-- the first statement of each copy of a set is done
abbrev pub moved_on : Copies → (Copy → Code) → Copy → Code
moved_on set rest c = if has set c then rest_after 1 (rest c) else rest c
