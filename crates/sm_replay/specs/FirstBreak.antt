-- The first cell of four ends at which Keeps fails, as it is looked for. No public clause cites it.
use Rattle.std.specs.Prelude.{◌≡◌, ℕ, ℤ, ◌≤ℤ◌, Option, Some, None, unwrap_or, List, map, Contains}
use Rattle.sm_syntax.specs.claim.ConflictFree.{Copy}
use Rattle.sm_syntax.specs.claim.Keeps.{Cell, variable}
use Rattle.sm_syntax.specs.text.Sorts.{Sorts}
use Rattle.sm_syntax.specs.declared.tree.Sort.{Sort}
use Rattle.sm_syntax.specs.declared.tree.Sort.TheVariants.{Num}
use Rattle.sm_syntax.specs.claim.Stores.{Store}
use Rattle.sm_replay.specs.declared.verdict.Verdict.{Verdict}
use Rattle.sm_replay.specs.declared.verdict.Verdict.TheVariants as verdict
use Rattle.sm_replay.specs.Verdicts.{cell_of, IsBelow, FailsAt, IsFirstBreak}
use Rattle.sm_replay.specs.Violations.{KeepsAt}

-- names with their sorts, where one without a sort counts as a number
abbrev pub sorted_by : Sorts → List ℕ → List (ℕ × Sort)
sorted_by sorts names = map (λ (x : ℕ). (x, unwrap_or (sorts x) Num)) names

-- Keeps fails first at this cell of an output, and there first in this part
pub record IsBreakOf (output : ℕ × Sort) (end : Copy → Store) (cell : Cell) (part : ℕ) : Type 0
  where
    pub own : variable cell ≡ output
    pub indices_before : (c : Cell) → IsBelow c cell → KeepsAt end c
    pub broken : FailsAt end cell part

-- a verdict names the first cell of an output at which Keeps fails, and the part
abbrev pub NamesBreak : ℕ × Sort → (Copy → Store) → Verdict → Type 0
NamesBreak output end verdict.Holds = ⊥
NamesBreak output end verdict.Unmet = ⊥
NamesBreak output end (verdict.Violates x i part) = IsBreakOf output end (cell_of x.0 i) part

-- what a verdict says of ends
abbrev pub Finds : List (ℕ × Sort) → (Copy → Store) → Verdict → Type 0
Finds outputs end verdict.Holds =
    (cell : Cell) → Contains outputs (variable cell) → KeepsAt end cell
Finds outputs end verdict.Unmet = ⊥
Finds outputs end (verdict.Violates x i part) = IsFirstBreak outputs end (cell_of x.0 i) part

-- an index is the least so far, or not below it
abbrev pub IsUpTo : Option ℤ → ℤ → Type 0
IsUpTo None i = ⊥
IsUpTo (Some least) i = least ≤ℤ i
