-- Private: what runs of a node's goals come to at the end of a search, as jobs give it.
use Rattle.std.specs.Prelude.{◌≡◌, ℕ, ◌+◌, ◌*◌, ◌/◌, ◌%◌, ◌<◌, ◌≤◌, min, List, ◌++◌, MatchOption, take, drop, length, slice_index_or}
use Rattle.sm_term.specs.declared.formula.Formula.{Formula}
use Rattle.sm_term.specs.Tables.{TableValue, trees_in, sorts_in}
use Rattle.sm_term.specs.Tails.{row_trees, AreRowsSound}
use Rattle.sm_plan.specs.Views.{forms_in}
use Rattle.sm_expand.specs.Views.{due_in}
use Rattle.sm_expand.specs.declared.due.Due.{Due}
use Rattle.sm_solve.specs.Walk.{walk}
use Rattle.sm_solve.specs.declared.reach.Reach.{Reach}
use Rattle.sm_houdini.specs.declared.run_ends.RunEnd.{RunEnd}
use Rattle.sm_houdini.specs.Collected.{AreCollected, goals_with, RunStops, RunCloses}
use Rattle.sm_houdini.specs.Dealing.{dealt, placed}

-- a table, what nodes ask over it, how many runs the goals of each node have, how far a walk goes,
-- and how many runs there are
pub record PlanEndsValue : Type 0 where
  pub table : TableValue
  pub dues : List Due
  pub each : ℕ
  pub reach : Reach
  pub count : ℕ

-- what a run of goals of a node comes to, which begins at a place: its new terms stand behind those
-- of the table, and over both its certificates show the goals; or else a goal stops the search
pub record IsRunEnd (v : TableValue) (reach : Reach) (due : Due) (first : ℕ) (run : List Formula)
    (end : RunEnd) : Type 0 where
  pub sound : AreRowsSound (sorts_in v) (trees_in v) end.rows
  pub copy : TableValue
  pub sorts : sorts_in copy ≡ sorts_in v
  pub trees : trees_in copy ≡ trees_in v ++ row_trees (trees_in v) end.rows
  pub ends :
      (let d = due_in (sorts_in v) (trees_in v) due in
      let asks = forms_in (sorts_in v) (trees_in v) run in
      MatchOption end.stop
      (RunCloses (walk (sorts_in v) reach) d first asks
      × AreCollected copy (goals_with d.facts asks) end.trees.items)
      (RunStops (walk (sorts_in v) reach) d first asks))

-- the goals of a run, from a place on
abbrev pub goals_from : ℕ → ℕ → List Formula → List Formula
goals_from size first goals = take size (drop first goals)

-- how many goals a run has, where there are so many runs of them
abbrev pub size_of : ℕ → ℕ → ℕ
size_of goals runs = goals / runs + min 1 (goals % runs)

-- what the k-th run of a node's goals comes to
abbrev pub IsPartEnd : TableValue → Reach → Due → ℕ → ℕ → RunEnd → Type 0
IsPartEnd v reach due each k end =
    let goals = due.targets.list.items in
    let size = size_of (length goals) each in
    IsRunEnd v reach due (k * size) (goals_from size (k * size) goals) end

-- what the run with a job's number comes to
abbrev pub TellsEnd : PlanEndsValue → ℕ → RunEnd → Type 0
TellsEnd v i end =
    let node = dealt (length v.dues) (i / v.each) in
    (due : Due) → IsPartEnd v.table v.reach (slice_index_or v.dues node due) v.each (i % v.each) end

-- what all runs of goals come to, in order
pub record AreRunEnds (v : TableValue) (reach : Reach) (due : Due) (goals : List Formula)
    (runs : List RunEnd) : Type 0 where
  pub size : ℕ
  pub covers : length goals ≤ length runs * size
  pub each :
      (k : ℕ) (e : RunEnd) →
      k < length runs →
      IsRunEnd v reach due (k * size) (goals_from size (k * size) goals) (slice_index_or runs k e)

-- what the runs of all nodes' goals come to, those of each node together at its place
pub record ArePlanEnds (v : TableValue) (reach : Reach) (dues : List Due) (each : ℕ)
    (runs : List RunEnd) : Type 0 where
  pub count : length runs ≡ length dues * each
  pub at :
      (i k : ℕ) (due : Due) (e : RunEnd) →
      i < length dues →
      k < each →
      IsPartEnd v reach (slice_index_or dues i due) each k
      (slice_index_or runs (placed (length dues) i * each + k) e)
