-- Private: how a term gets its number in a file: by a line, where all its parts have numbers.
use Rattle.std.specs.Prelude.{◌≡◌, ℕ, ◌<◌, None, Ok, List}
use Rattle.sm_term.specs.Tables.{TableValue, trees_in, sorts_in, tree_at}
use Rattle.sm_term.specs.Terms.{Tree}
use Rattle.sm_plan.specs.States.{State}
use Rattle.sm_proof.specs.declared.line.TermLine.{TermLine}
use Rattle.sm_proof.specs.FieldRanges.{IsTermLineWithin}
use Rattle.sm_proof.specs.Passing.{Pending, term_made}
use Rattle.sm_write.specs.declared.naming.Step.{Step}
use Rattle.sm_write.specs.declared.naming.Step.TheVariants as step
use Rattle.sm_write.specs.Seen.{IsBuilt, IsAtom, Seen}
use Rattle.sm_write.specs.Written.{Names, AreNames}

-- a line makes term t, unless that is a new value or a summary
abbrev pub IsLineOf : TableValue → Names → ℕ → TermLine → Type 0
IsLineOf v names t line =
    (terms : List Tree) (due : Pending) → AreNames (trees_in v) names terms →
    (IsAtom (tree_at (trees_in v) t) → ⊥) →
    IsTermLineWithin line × (term_made (sorts_in v) terms due line ≡ Ok (tree_at (trees_in v) t))

-- a part of term t has no number, and is built of what t is
pub record IsOpenPart (v : TableValue) (names : Names) (t p : ℕ) : Type 0 where
  pub before : p < t
  pub unnamed : names p ≡ None
  pub built :
      (seen : List State) → IsBuilt (Seen seen) (tree_at (trees_in v) t) →
      IsBuilt (Seen seen) (tree_at (trees_in v) p)

-- either of them
abbrev pub IsStep : TableValue → Names → ℕ → Step → Type 0
IsStep v names t (step.Line line) = IsLineOf v names t line
IsStep v names t (step.Part p) = IsOpenPart v names t p
