-- Private: certificates that a proof file can have for the goals of a plan.
use Rattle.std.specs.Prelude.{ℕ, ◌<◌, ◌≤◌, List, [], ◌∷◌, length, Option}
use Rattle.sm_syntax.specs.text.Sorts.{Sorts}
use Rattle.sm_term.specs.Terms.{Tree}
use Rattle.sm_theory.specs.Facts.{BranchFact}
use Rattle.sm_cert.specs.Certificates.{Closes}
use Rattle.sm_cert.specs.NamedTerms.{EachTerm}
use Rattle.sm_cert.specs.Views.{certificate_in, lines_of, AreLinesWithin}
use Rattle.sm_cert.specs.declared.tree.CertTree.{CertTree}
use Rattle.sm_plan.specs.States.{State}
use Rattle.sm_write.specs.Nameable.{Nameable}
use Rattle.sm_write.specs.Writable.{Goal, IsShort, states_until}
use Rattle.sm_audit.specs.Known.{AreLinesFit}
use Rattle.sm_audit.specs.Since.{AreSince}

-- a certificate's lines are short, and what they name is known by a node
pub record IsTreeFit (since : List (Option ℕ)) (node : ℕ) (tree : CertTree) : Type 0 where
  pub lines : AreLinesFit since node (lines_of tree)
  pub short : (trees : List Tree) → IsShort (certificate_in trees tree)
  pub named : (sorts : Sorts) (states : List State) (trees : List Tree) →
      AreSince sorts states trees since →
      EachTerm (Nameable sorts (states_until states node)) (certificate_in trees tree)

-- a certificate closes a branch, is in a table, is short, and names what can be named at a node
pub record IsGoalFit (sorts : Sorts) (states : List State) (trees : List Tree) (node : ℕ)
    (branch : List BranchFact) (tree : CertTree) : Type 0 where
  pub closes : Closes sorts branch (certificate_in trees tree)
  pub within : AreLinesWithin (length trees) (lines_of tree)
  pub short : IsShort (certificate_in trees tree)
  pub named : EachTerm (Nameable sorts (states_until states node)) (certificate_in trees tree)

-- each goal has such a certificate, in order
abbrev pub AreGoalsFit : Sorts → List State → List Tree → List Goal → List CertTree → Type 0
AreGoalsFit sorts states trees [] [] = Unit {0}
AreGoalsFit sorts states trees [] (c ∷ cs) = ⊥
AreGoalsFit sorts states trees (g ∷ gs) [] = ⊥
AreGoalsFit sorts states trees (g ∷ gs) (c ∷ cs) =
    IsGoalFit sorts states trees g.node g.branch c × AreGoalsFit sorts states trees gs cs
