-- Cited by public clauses: tasks of which proofs may be checked, as each that a text spells is.
use Rattle.std.specs.Prelude.{◌≡◌, ℕ, length, map}
use Rattle.std.specs.List.{range_with_len}
use Rattle.sm_syntax.specs.declared.tree.Sort.{Sort}
use Rattle.sm_syntax.specs.text.Parts.{Parts, sort_of, task_of}
use Rattle.sm_plan.specs.SortedStates.{IsTaskSorted}

-- each name stands as it is declared, and the declared names are numbered from 0 on
pub record IsCheckable (t : Parts) : Type 0 where
  pub sorted : IsTaskSorted (sort_of t.declared) (task_of t)
  pub numbered : map (λ (d : ℕ × Sort). d.0) t.declared ≡ range_with_len 0 (length t.declared)
