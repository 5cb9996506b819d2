-- What a verdict says. Of one task, store and bound on turns just one of these holds, but for want
-- of memory. Public clauses cite it.
use Rattle.std.specs.Prelude.{◌≡◌, ◌<◌, ℕ, ℤ, ◌<ℤ◌, Option, Some, None, Result, Ok, Err, List, Contains, slice_get}
use Rattle.sm_syntax.specs.declared.tree.Sort.{Sort}
use Rattle.sm_syntax.specs.claim.ConflictFree.{Copy, O, A, B, M, Meets, Task, program_of, copy_of}
use Rattle.sm_syntax.specs.trees.FirstBroken.{IsFirstBroken}
use Rattle.sm_syntax.specs.claim.Keeps.{Cell, Scalar, Element, content, variable}
use Rattle.sm_syntax.specs.claim.Stores.{Store}
use Rattle.sm_syntax.specs.claim.Syntax.{Condition, Code}
use Rattle.sm_eval.specs.declared.error.EvalError.TheVariants as eval
use Rattle.sm_eval.specs.Events.{event}
use Rattle.sm_eval.specs.declared.error.EvalError.{EvalError}
pub use Rattle.sm_replay.specs.declared.error.ReplayError.{ReplayError}
pub use Rattle.sm_replay.specs.declared.error.ReplayError.TheVariants.{Beyond, BeyondAssumed, Memory, OutOfTurns}
use Rattle.sm_replay.specs.declared.verdict.Verdict.{Verdict}
use Rattle.sm_replay.specs.declared.verdict.Verdict.TheVariants as verdict
use Rattle.sm_replay.specs.Violations.{assumed_event, IsMet, AreEnds, KeepsAt}

-- the cell of a name: with an index, an element of the array
abbrev pub cell_of : ℕ → Option ℤ → Cell
cell_of x None = Scalar x
cell_of x (Some i) = Element x i

-- an element of the same array at a smaller index
abbrev pub IsBelow : Cell → Cell → Type 0
IsBelow (Scalar x) cell = ⊥
IsBelow (Element a i) (Scalar x) = ⊥
IsBelow (Element a i) (Element b j) = (a ≡ b) × (i <ℤ j)

-- at one cell of four ends this is the first part of Keeps that fails
abbrev pub FailsAt : (Copy → Store) → Cell → ℕ → Type 0
FailsAt end cell part =
    IsFirstBroken part (content (end O) cell) (content (end A) cell) (content (end B) cell)
    (content (end M) cell)

-- Keeps fails first at this cell, and there first in this part; cells are taken output by output,
-- and by rising index
pub record IsFirstBreak (outputs : List (ℕ × Sort)) (end : Copy → Store) (cell : Cell) (part : ℕ)
    : Type 0 where
  pub place : ℕ
  pub output : slice_get outputs place ≡ Some (variable cell)
  pub outputs_before : (q : ℕ) (c : Cell) → q < place → slice_get outputs q ≡ Some (variable c)
      → KeepsAt end c
  pub indices_before : (c : Cell) → IsBelow c cell → KeepsAt end c
  pub broken : FailsAt end cell part

-- the four programs end, and Keeps holds at each cell of an output
pub record KeepsOutputs (t : Task) (s : Store) (n : ℕ) : Type 0 where
  pub met : IsMet t.assumed s
  pub end : Copy → Store
  pub ends : AreEnds (program_of t) s n end
  pub keeps : (cell : Cell) → Contains t.outputs (variable cell) → KeepsAt end cell

-- the four programs end, and this is the first cell and part in which Keeps fails
pub record Breaks (t : Task) (s : Store) (n : ℕ) (cell : Cell) (part : ℕ) : Type 0 where
  pub met : IsMet t.assumed s
  pub end : Copy → Store
  pub ends : AreEnds (program_of t) s n end
  pub first : IsFirstBreak t.outputs end cell part

-- the assumption is computed, and is false
pub record IsUnmet (assumed : Option Condition) (s : Store) : Type 0 where
  pub no_event : assumed_event assumed s ≡ None
  pub fails : ¬ Meets assumed s

-- the programs before the copy with this number have no event, and its first event is this
pub record Stops (program : Copy → Code) (s : Store) (n copy : ℕ) (e : EvalError) : Type 0 where
  pub inside : copy < 4
  pub stops : event n (program (copy_of copy)) s ≡ Some e
  pub no_event_before : (c : ℕ) → c < copy → event n (program (copy_of c)) s ≡ None

-- what an answer says of a task, a start store and a bound on turns
abbrev pub Judges : Task → Store → ℕ → Result Verdict ReplayError → Type 0
Judges t s n (Ok verdict.Holds) = KeepsOutputs t s n
Judges t s n (Ok verdict.Unmet) = IsUnmet t.assumed s
Judges t s n (Ok (verdict.Violates x i part)) = Breaks t s n (cell_of x.0 i) part
Judges t s n (Err (OutOfTurns copy)) =
    IsMet t.assumed s × Stops (program_of t) s n copy eval.OutOfTurns
Judges t s n (Err (Beyond copy op a b)) =
    IsMet t.assumed s × Stops (program_of t) s n copy (eval.Beyond op a b)
Judges t s n (Err (BeyondAssumed op a b)) = assumed_event t.assumed s ≡ Some (eval.Beyond op a b)
Judges t s n (Err Memory) = Unit {0}

-- the answer is that the store violates the condition
abbrev pub IsViolation : Result Verdict ReplayError → Type 0
IsViolation (Ok verdict.Holds) = ⊥
IsViolation (Ok verdict.Unmet) = ⊥
IsViolation (Ok (verdict.Violates x i part)) = Unit {0}
IsViolation (Err e) = ⊥
