-- Laws of runs and of merges, each for all programs and stores. Public clauses cite them.
use Rattle.std.specs.Prelude.{◌≡◌, ◌≢◌, ◌≤◌, ◌↔◌, ℕ, ℤ, false, Some}
use Rattle.std.specs.List.{AllByRecursion}
use Rattle.sm_syntax.specs.claim.Syntax.{Code, append}
use Rattle.sm_syntax.specs.claim.Stores.{Store}
use Rattle.sm_syntax.specs.claim.Meaning.{and_then, run}
use Rattle.sm_syntax.specs.Assigns.{assigns}
use Rattle.sm_syntax.specs.claim.Keeps.{Keeps}
use Rattle.sm_syntax.specs.text.Sorts.{Sorts, IsAsDeclared, IsWellSorted, Sort}
use Rattle.sm_syntax.specs.text.Uses.{names_used}

-- a run that ends under a bound on turns ends in the same store under each greater bound
abbrev pub MoreTurns : Type 0
MoreTurns =
    (m n : ℕ) (c : Code) (s t : Store) →
    m ≤ n → run m c s ≡ Some t → run n c s ≡ Some t

-- one code after another runs on from the end of the first
abbrev pub RunOfAppended : Type 0
RunOfAppended =
    (n : ℕ) (c r : Code) (s : Store) →
    run n (append c r) s ≡ and_then (run n c s) (run n r)

-- a run leaves the value of each name that the code doesn't assign
abbrev pub UnassignedStays : Type 0
UnassignedStays =
    (n : ℕ) (c : Code) (x : ℕ) (s t : Store) →
    assigns c x ≡ false → run n c s ≡ Some t → t x ≡ s x

-- Keeps holds exactly of A's value where A changed it, of B's where B changed it, and of the base's
-- where neither did
abbrev pub KeepsExactly : Type 0
KeepsExactly =
    (base a b candidate : ℤ) →
    Keeps base a b candidate
    ↔ ((base ≢ a → candidate ≡ a)
    × (base ≢ b → candidate ≡ b)
    × (base ≡ a → base ≡ b → candidate ≡ base))

-- code is well sorted exactly where each name in its list is declared with the sort beside it
abbrev pub WellSortedIsAll : Type 0
WellSortedIsAll =
    (sorts : Sorts) (c : Code) →
    IsWellSorted sorts c
    ↔ AllByRecursion (λ (u : ℕ × Sort). IsAsDeclared sorts u.0 u.1) (names_used c)
