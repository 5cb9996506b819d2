-- Private: the lines of an explanation and the facts that they add, by the places of their terms.
use Rattle.std.specs.Prelude.{◌≡◌, ℕ, ◌<◌, slice_get, Some, List, [], ◌∷◌, length}
use Rattle.sm_syntax.specs.text.Sorts.{Sorts}
use Rattle.sm_term.specs.Terms.{Tree}
use Rattle.sm_term.specs.Assertions.{Eq, Ne}
use Rattle.sm_term.specs.Sorted.{tree_sort}
use Rattle.sm_term.specs.Tables.{tree_at}
use Rattle.sm_theory.specs.Facts.{BranchFact, Formal}
use Rattle.sm_theory.specs.Lines as line
use Rattle.sm_theory.specs.Lines.{CertificateLine}
use Rattle.sm_cc.specs.declared.log.Known.{Known}
use Rattle.sm_cc.specs.declared.log.Known.TheVariants.{Equal, Unequal}
use Rattle.sm_cc.specs.declared.log.Rule.{Rule}
use Rattle.sm_cc.specs.declared.log.Rule.TheVariants as rule
use Rattle.sm_cc.specs.declared.log.Step.{Step}

-- the places of what is known
abbrev pub left_of : Known → ℕ
left_of (Equal i j) = i
left_of (Unequal i j) = i

abbrev pub right_of : Known → ℕ
right_of (Equal i j) = j
right_of (Unequal i j) = j

-- terms of one head without arguments are one term
abbrev pub congruence_line : Tree → Tree → List ℕ → CertificateLine
congruence_line t u [] = line.Refl t
congruence_line t u (n ∷ ns) = line.Cong t u (n ∷ ns)

-- the line of a rule
abbrev pub line_of : List Tree → Rule → Known → CertificateLine
line_of terms rule.Refl k = line.Refl (tree_at terms (left_of k))
line_of terms (rule.Sym n) k = line.Sym n
line_of terms (rule.Trans m n) k = line.Trans m n
line_of terms (rule.Subst m n) k = line.Subst m n
line_of terms rule.Alike k = line.Same (tree_at terms (left_of k)) (tree_at terms (right_of k))
line_of terms rule.Apart k = line.Apart (tree_at terms (left_of k)) (tree_at terms (right_of k))
line_of terms (rule.Cong ns) k =
    congruence_line (tree_at terms (left_of k)) (tree_at terms (right_of k)) ns.items
line_of terms (rule.Hit n) k = line.Hit (tree_at terms (left_of k)) n
line_of terms (rule.Miss n) k =
    line.Miss (tree_at terms (left_of k)) (tree_at terms (right_of k)) n

-- what is known, as a fact
abbrev pub known_fact : Sorts → List Tree → Known → BranchFact
known_fact sorts terms (Equal i j) =
    Formal (Eq (tree_sort sorts (tree_at terms i)) (tree_at terms i) (tree_at terms j))
known_fact sorts terms (Unequal i j) =
    Formal (Ne (tree_sort sorts (tree_at terms i)) (tree_at terms i) (tree_at terms j))

-- what is known is of terms of one sort
pub record IsOfTerms (sorts : Sorts) (terms : List Tree) (k : Known) : Type 0 where
  pub left : left_of k < length terms
  pub right : right_of k < length terms
  pub one_sort :
      tree_sort sorts (tree_at terms (left_of k)) ≡ tree_sort sorts (tree_at terms (right_of k))

-- the line of a step
abbrev pub step_line : List Tree → Step → CertificateLine
step_line terms s = line_of terms s.rule s.known

-- the fact that a step says
abbrev pub step_fact : Sorts → List Tree → Step → BranchFact
step_fact sorts terms s = known_fact sorts terms s.known

-- the places of steps are below a number
abbrev pub AreStepsIn : ℕ → List Step → Type 0
AreStepsIn n steps =
    (m : ℕ) (s : Step) → slice_get steps m ≡ Some s →
    (left_of s.known < n) × (right_of s.known < n)
