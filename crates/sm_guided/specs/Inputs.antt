-- From which stores programs are observed. Public clauses cite it.
use Rattle.std.specs.Prelude.{◌≡◌}
use Rattle.sm_eval.specs.StoredValues.{meaning, sorts_of}
use Rattle.sm_eval.specs.declared.store.Store.{Store}
use Rattle.sm_replay.specs.Violations.{IsMet}
use Rattle.sm_syntax.specs.text.Parts.{Parts, sort_of, task_of}

-- the store is one of the declarations, and meets the assumption
pub record IsInput (t : Parts) (s : Store) : Type 0 where
  pub declared : sorts_of s ≡ sort_of t.declared
  pub met : IsMet (task_of t).assumed (meaning s)
