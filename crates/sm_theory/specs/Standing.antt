-- Cited by public clauses: linear forms over numbers, as the program keeps them, that stand for
-- forms over terms. The number of a term is its place in a list.
use Rattle.std.specs.Prelude.{◌≡◌, ◌≢◌, ◌↔◌, ℕ, ℤ, pos, IsTrue, slice_get, Some, None, List}
use Rattle.sm_num.specs.Forms.{Linear, coefficient, IsKept}
use Rattle.sm_num.specs.declared.kind.Kind.{Kind}
use Rattle.sm_num.specs.Combining.{Outcome, Fits, Leaves, combined, combination}
use Rattle.sm_num.specs.Eliminating.{can_cancel, eliminated, elimination}
use Rattle.sm_num.specs.Tightening.{tightened, is_contradictory}
use Rattle.sm_num.specs.FormLaws.{same_atom}
use Rattle.sm_term.specs.Terms.{Tree, Neg, Add, Sub, Mul}
use Rattle.sm_term.specs.SameTerms.{same_tree}
use Rattle.sm_term.specs.Tables.{tree_at}
use Rattle.sm_theory.specs.LinearTerms.{linear_of, linear_by}
use Rattle.sm_theory.specs.Arithmetic.{same_parts, one_more}
use Rattle.sm_theory.specs.SortedFacts.{StandOnce}

-- a term has a place
abbrev pub StandsAt : List Tree → ℕ → Tree → Type 0
StandsAt trees n t = slice_get trees n ≡ Some t

-- no term has two
abbrev pub HaveOnePlace : List Tree → Type 0
HaveOnePlace trees =
    (i j : ℕ) (t : Tree) → StandsAt trees i t → StandsAt trees j t → i ≡ j

-- two forms have one kind, one constant, one coefficient of a number and of the term at this place,
-- and none elsewhere
pub record StandsFor (trees : List Tree) (f : Linear ℕ) (g : Linear Tree) : Type 0 where
  pub kind : f.kind ≡ g.kind
  pub constant : f.constant ≡ g.constant
  pub at_places :
      (n : ℕ) (t : Tree) → StandsAt trees n t →
      coefficient same_atom n f.parts ≡ coefficient same_tree t g.parts
  pub no_other_number :
      (n : ℕ) → slice_get trees n ≡ None → coefficient same_atom n f.parts ≡ pos 0
  pub no_other_term :
      (t : Tree) → ((n : ℕ) → slice_get trees n ≢ Some t) →
      coefficient same_tree t g.parts ≡ pos 0

-- a form as the program keeps it stands for one in which each term stands once
pub record IsKeptFor (trees : List Tree) (f : Linear ℕ) (g : Linear Tree) : Type 0 where
  pub kept : IsKept f
  pub once : StandOnce g.parts
  pub stands : StandsFor trees f g

-- forms of the first terms, in order
abbrev pub AreLinearForms : List Tree → List (Linear ℕ) → Type 0
AreLinearForms trees forms =
    (n : ℕ) (f : Linear ℕ) → slice_get forms n ≡ Some f →
    IsKeptFor trees f (linear_of (tree_at trees n))

-- both are forms, of which one is kept for the other, or both leave the range
abbrev pub IsOutcomeFor : List Tree → Outcome (Linear ℕ) → Outcome (Linear Tree) → Type 0
IsOutcomeFor trees (Fits f) (Fits g) = IsKeptFor trees f g
IsOutcomeFor trees (Fits f) (Leaves op y z) = ⊥
IsOutcomeFor trees (Leaves op y z) (Fits g) = ⊥
IsOutcomeFor trees (Leaves op y z) (Leaves other v w) = Unit {0}

-- sums of forms are kept for sums of what these are kept for
abbrev pub CombinedStands : Type 0
CombinedStands =
    (trees : List Tree) (f h : Linear ℕ) (g i : Linear Tree) (p q : ℤ) (kind : Kind) →
    HaveOnePlace trees → IsKeptFor trees f g → IsKeptFor trees h i →
    IsOutcomeFor trees (combined f p h q kind) (combination same_tree g p i q kind)

-- sums of forms in which an atom cancels are kept for sums in which its term cancels
abbrev pub EliminatedStands : Type 0
EliminatedStands =
    (trees : List Tree) (f h : Linear ℕ) (g i : Linear Tree) (n : ℕ) (t : Tree) →
    HaveOnePlace trees → StandsAt trees n t → IsKeptFor trees f g → IsKeptFor trees h i →
    IsOutcomeFor trees (eliminated f h n) (elimination same_tree g i t)

-- a number cancels where its term does
abbrev pub CanCancelStands : Type 0
CanCancelStands =
    (trees : List Tree) (f h : Linear ℕ) (g i : Linear Tree) (n : ℕ) (t : Tree) →
    StandsAt trees n t → StandsFor trees f g → StandsFor trees h i →
    can_cancel same_atom f h n ≡ can_cancel same_tree g i t

-- a tight form is kept for the tight form
abbrev pub TightenedStands : Type 0
TightenedStands =
    (trees : List Tree) (f : Linear ℕ) (g : Linear Tree) → HaveOnePlace trees →
    IsKeptFor trees f g → IsKeptFor trees (tightened f) (tightened g)

-- a contradiction is kept for contradictions alone
abbrev pub ContradictoryStands : Type 0
ContradictoryStands =
    (trees : List Tree) (f : Linear ℕ) (g : Linear Tree) → HaveOnePlace trees →
    IsKeptFor trees f g → is_contradictory f ≡ is_contradictory g

-- 1 more is kept for 1 more
abbrev pub OneMoreStands : Type 0
OneMoreStands =
    (trees : List Tree) (f : Linear ℕ) (g : Linear Tree) →
    IsKeptFor trees f g → IsOutcomeFor trees (one_more f) (one_more g)

-- kept forms have the same list of parts exactly where what they are kept for has the same parts
abbrev pub SamePartsStand : Type 0
SamePartsStand =
    (trees : List Tree) (f h : Linear ℕ) (g i : Linear Tree) →
    IsKeptFor trees f g → IsKeptFor trees h i → IsTrue (same_parts g i) ↔ (f.parts ≡ h.parts)

-- each term keeps its place
abbrev pub PlacesStay : List Tree → List Tree → Type 0
PlacesStay trees later =
    (n : ℕ) (t : Tree) → StandsAt trees n t → StandsAt later n t

-- what is kept is kept where more terms have places
abbrev pub StandsLater : Type 0
StandsLater =
    (trees later : List Tree) (f : Linear ℕ) (g : Linear Tree) →
    PlacesStay trees later → HaveOnePlace later → IsKeptFor trees f g → IsKeptFor later f g

-- a term and the operands of an operation on numbers have the places that are told
abbrev pub HasPlaces : List Tree → (Tree → ℕ) → Tree → Type 0
HasPlaces trees place (Neg t) = StandsAt trees (place (Neg t)) (Neg t) × HasPlaces trees place t
HasPlaces trees place (Add t u) =
    StandsAt trees (place (Add t u)) (Add t u)
    × HasPlaces trees place t × HasPlaces trees place u
HasPlaces trees place (Sub t u) =
    StandsAt trees (place (Sub t u)) (Sub t u)
    × HasPlaces trees place t × HasPlaces trees place u
HasPlaces trees place (Mul t u) =
    StandsAt trees (place (Mul t u)) (Mul t u)
    × HasPlaces trees place t × HasPlaces trees place u
HasPlaces trees place t = StandsAt trees (place t) t

-- the form of a term by numbers is kept for the form of the term
abbrev pub LinearStands : Type 0
LinearStands =
    (trees : List Tree) (place : Tree → ℕ) (t : Tree) → HaveOnePlace trees →
    HasPlaces trees place t → IsKeptFor trees (linear_by place t) (linear_of t)
