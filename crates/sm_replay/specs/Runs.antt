-- The four programs and their ends as the program keeps them. Public clauses cite it.
use Rattle.std.specs.Prelude.{◌≡◌, ◌⊎◌, ℕ, Option, Some, None, List}
use Rattle.sm_syntax.specs.text.Conditions.{first_sort_fault}
use Rattle.sm_syntax.specs.text.Uses.{names_used}
use Rattle.sm_syntax.specs.claim.ConflictFree.{Copy}
use Rattle.sm_syntax.specs.trees.Copies.{number_of, of_copy}
use Rattle.sm_syntax.specs.declared.copies.PerCopy.{PerCopy}
use Rattle.sm_syntax.specs.text.Parts.{sort_of}
use Rattle.sm_syntax.specs.text.Sorts.{Sorts}
use Rattle.sm_syntax.specs.declared.tree.Sort.{Sort}
use Rattle.sm_syntax.specs.claim.Stores.{Store}
use Rattle.sm_syntax.specs.claim.Syntax.{Code}
use Rattle.sm_syntax.specs.trees.Views.{code_of}
use Rattle.sm_syntax.specs.declared.tree.Block.{Block}
use Rattle.sm_eval.specs.declared.error.EvalError.TheVariants as eval
use Rattle.sm_eval.specs.declared.store.Store as code
use Rattle.sm_eval.specs.Events.{event}
use Rattle.sm_eval.specs.declared.error.EvalError.{EvalError}
use Rattle.sm_eval.specs.StoredValues.{meaning, sorts_of}
use Rattle.sm_replay.specs.Verdicts.{Stops, ReplayError, OutOfTurns, Beyond, Memory}

-- the code of each copy
abbrev pub code_in : PerCopy Block → Copy → Code
code_in programs c = code_of (of_copy programs c)

-- each name of four programs stands as it is declared
abbrev pub AreSorted : List (ℕ × Sort) → PerCopy Block → Type 0
AreSorted declared programs =
    (c : Copy) → first_sort_fault (sort_of declared) (names_used (code_in programs c)) ≡ None

-- the end of each copy
abbrev pub end_in : PerCopy code.Store → Copy → Store
end_in ends c = meaning (of_copy ends c)

-- in each of four stores the names have these sorts
abbrev pub HaveSorts : PerCopy code.Store → Sorts → Type 0
HaveSorts ends sorts = (c : Copy) → sorts_of (of_copy ends c) ≡ sorts

-- in each of four stores a name has this sort
abbrev pub HaveSort : PerCopy code.Store → ℕ → Option Sort → Type 0
HaveSort ends x sort = (c : Copy) → sorts_of (of_copy ends c) x ≡ sort

-- the error of the copy with a number for an event of its run
abbrev pub stop_of : ℕ → EvalError → ReplayError
stop_of copy eval.OutOfTurns = OutOfTurns copy
stop_of copy (eval.Beyond op a b) = Beyond copy op a b
stop_of copy eval.Memory = Memory

-- the error is want of memory, or says which copy stops first
abbrev pub Halts : (Copy → Code) → Store → ℕ → ReplayError → Type 0
Halts program s n e =
    (e ≡ Memory)
    ⊎ ((copy : ℕ) × (ev : EvalError) × (e ≡ stop_of copy ev) × Stops program s n copy ev)

-- the error is want of memory, or says at which event the run of a copy stops
abbrev pub HaltsAt : Copy → Code → Store → ℕ → ReplayError → Type 0
HaltsAt c code s n e =
    (e ≡ Memory)
    ⊎ ((ev : EvalError) × (event n code s ≡ Some ev) × (e ≡ stop_of (number_of c) ev))
