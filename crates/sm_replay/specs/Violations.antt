-- What runs of the four programs from one store show against a merge. Public clauses cite it.
use Rattle.std.specs.Prelude.{◌≡◌, ℕ, Option, Some, None, Contains}
use Rattle.sm_syntax.specs.claim.ConflictFree.{Copy, O, A, B, M, Meets, Task, program_of}
use Rattle.sm_syntax.specs.claim.Keeps.{Keeps, Cell, content, variable}
use Rattle.sm_syntax.specs.claim.Meaning.{run}
use Rattle.sm_syntax.specs.claim.Stores.{Store}
use Rattle.sm_syntax.specs.claim.Syntax.{Condition, Code}
use Rattle.sm_eval.specs.Events.{condition_event, event}
use Rattle.sm_eval.specs.declared.error.EvalError.{EvalError}

-- the first event of an assumption
abbrev pub assumed_event : Option Condition → Store → Option EvalError
assumed_event None s = None
assumed_event (Some b) s = condition_event b s

-- the store meets the assumption, where computing it leaves 128 bits nowhere
pub record IsMet (assumed : Option Condition) (s : Store) : Type 0 where
  pub no_event : assumed_event assumed s ≡ None
  pub meets : Meets assumed s

-- four programs end in these stores without an event, where each loop takes at most n turns
pub record AreEnds (program : Copy → Code) (s : Store) (n : ℕ) (end : Copy → Store) : Type 0 where
  pub no_event : (c : Copy) → event n (program c) s ≡ None
  pub ends : (c : Copy) → run n (program c) s ≡ Some (end c)

-- Keeps at one cell of four ends
abbrev pub KeepsAt : (Copy → Store) → Cell → Type 0
KeepsAt end cell =
    Keeps (content (end O) cell) (content (end A) cell) (content (end B) cell)
    (content (end M) cell)

-- the store meets the assumption, the four programs end from it, and Keeps fails at a cell of an
-- output
pub record Violates (t : Task) (s : Store) (n : ℕ) : Type 0 where
  pub met : IsMet t.assumed s
  pub end : Copy → Store
  pub ends : AreEnds (program_of t) s n end
  pub cell : Cell
  pub output : Contains t.outputs (variable cell)
  pub broken : ¬ KeepsAt end cell
