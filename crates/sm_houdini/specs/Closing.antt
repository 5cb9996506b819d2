-- Private: goals that close, and what is known of a task while it is searched.
use Rattle.std.specs.Prelude.{◌≡◌, ℕ, Bool, not, ◌||◌, Option, None, List, slice_get, unwrap_or}
use Rattle.sm_syntax.specs.text.Parts.{sort_of, task_of}
use Rattle.sm_syntax.specs.text.Sorts.{Sorts}
use Rattle.sm_syntax.specs.trees.Programs.{declared_of}
use Rattle.sm_term.specs.Assertions.{Assertion}
use Rattle.sm_term.specs.Tables.{TableValue, trees_in, sorts_in}
use Rattle.sm_text.specs.Tasks.{parts_of}
use Rattle.sm_text.specs.declared.task.Task.{Task}
use Rattle.sm_task.specs.Filling.{AreFilled}
use Rattle.sm_plan.specs.Plans.{Due}
use Rattle.sm_plan.specs.SortedStates.{IsTaskSorted}
use Rattle.sm_plan.specs.Starts.{AreNumbered}
use Rattle.sm_sketch.specs.SketchViews.{sketch_in, IsSketchReady}
use Rattle.sm_product.specs.Products.{sketch_of}
use Rattle.sm_solve.specs.Walk.{walk}
use Rattle.sm_solve.specs.declared.reach.Reach.{Reach}
use Rattle.sm_houdini.specs.declared.product.Product.{Product}
use Rattle.sm_houdini.specs.Outcomes.{is_closing}
use Rattle.sm_houdini.specs.Owners.{owners}
use Rattle.sm_houdini.specs.Rounds.{is_site, closes_if}

-- whether a goal closes over facts
abbrev pub closing : Sorts → Reach → List Assertion → Assertion → Bool
closing sorts reach facts goal = is_closing (walk sorts reach facts goal)

-- whether the i-th goal of what a node asks closes, where there is one
abbrev pub closes_at : Sorts → Reach → Due → ℕ → Bool
closes_at sorts reach d i = closes_if (closing sorts reach d.facts) (slice_get d.goals i)

-- whether the i-th template of a site is still there after what a node asks
abbrev pub stays_at : Sorts → Reach → (Due → Option ℕ) → Due → ℕ → ℕ → Bool
stays_at sorts reach owner d s i = not (is_site (owner d) s) || closes_at sorts reach d i

-- the owner of what a node asks, by a list of owners
abbrev pub owner_in : List (Option ℕ) → Due → Option ℕ
owner_in list d = unwrap_or (slice_get list d.node) None

-- a task with its four programs, its sketch over a table of its declarations, and the owners of the
-- sketch's nodes
pub record Knows (v : TableValue) (task : Task) (p : Product) : Type 0 where
  pub declared : sorts_in v ≡ sort_of (declared_of task.shared.decls)
  pub numbered : AreNumbered (declared_of task.shared.decls)
  pub sorted : IsTaskSorted (sort_of (declared_of task.shared.decls)) (task_of (parts_of task))
  pub filled : AreFilled (parts_of task) p.programs
  pub sketch : sketch_in (sorts_in v) (trees_in v) p.sketch ≡ sketch_of (parts_of task)
  pub ready : IsSketchReady (sorts_in v) (trees_in v) p.sketch
  pub owned : p.owners.items ≡ owners None 0 (sketch_of (parts_of task))
