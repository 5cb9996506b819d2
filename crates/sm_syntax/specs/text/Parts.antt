-- A task as its text gives it. Public clauses cite it.
-- With the task of the claim that it stands for.
use Rattle.std.specs.Prelude.{ℕ, ◌==◌, if◌then◌else◌, Option, Some, None, unwrap_or, List, [], ◌∷◌, map}
use Rattle.sm_syntax.specs.declared.tree.Sort.{Sort}
use Rattle.sm_syntax.specs.declared.tree.Sort.TheVariants.{Num}
use Rattle.sm_syntax.specs.claim.Syntax.{Condition, Code}
use Rattle.sm_syntax.specs.claim.Fill.{Fillings}
use Rattle.sm_syntax.specs.claim.ConflictFree.{Copy, O, A, B, M, Task}

-- the parts of a task, and the text of each name by its number
pub record Parts : Type 0 where
  pub names : List (List ℕ)
  pub declared : List (ℕ × Sort)
  pub outputs : List ℕ
  pub assumed : Option Condition
  pub shared : Code
  pub fillings : Copy → Fillings

-- what each copy has
abbrev pub by_copy : {T : Type 0} → T → T → T → T → Copy → T
by_copy o a b m O = o
by_copy o a b m A = a
by_copy o a b m B = b
by_copy o a b m M = m

-- the sort with which a name is declared
abbrev pub sort_of : List (ℕ × Sort) → ℕ → Option Sort
sort_of [] x = None
sort_of (d ∷ rest) x = if d.0 == x then Some d.1 else sort_of rest x

-- the outputs with their sorts; an output that isn't declared, which no valid task has, counts as a
-- number
abbrev pub sorted_outputs : List (ℕ × Sort) → List ℕ → List (ℕ × Sort)
sorted_outputs declared outputs = map (λ (x : ℕ). (x, unwrap_or (sort_of declared x) Num)) outputs

-- the task that the parts make
abbrev pub task_of : Parts → Task
task_of t = record {
  assumed = t.assumed;
  outputs = sorted_outputs t.declared t.outputs;
  shared = t.shared;
  fillings = t.fillings;
}
