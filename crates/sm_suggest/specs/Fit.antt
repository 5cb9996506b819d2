-- What a decision asks of a task. Public clauses cite it.
-- A task that some text spells has it all. It may have any number of nodes, as a combination of
-- fillings may.
use Rattle.std.specs.Prelude.{◌≡◌, ℕ, false, None}
use Rattle.sm_syntax.specs.claim.ConflictFree.{Copy}
use Rattle.sm_syntax.specs.claim.Fill.{filling}
use Rattle.sm_syntax.specs.text.Parts.{Parts, sort_of, task_of}
use Rattle.sm_replay.specs.Sorted.{sort_fault}
use Rattle.sm_plan.specs.SortedStates.{IsTaskSorted}
use Rattle.sm_plan.specs.Starts.{AreNumbered}
use Rattle.sm_moves.specs.CodeShapes.{has_hole}

-- its names stand as they are declared and are numbered in order, and no filling has a hole
pub record IsFit (t : Parts) : Type 0 where
  pub runs : sort_fault t ≡ None
  pub sorted : IsTaskSorted (sort_of t.declared) (task_of t)
  pub numbered : AreNumbered t.declared
  pub no_hole : (c : Copy) (h : ℕ) → has_hole (filling (t.fillings c) h) ≡ false
