-- Cited by public clauses: terms that are listed by their numbers, each after its arguments. The
-- steps that are left stand on a stack, of which the last is the next one.
use Rattle.std.specs.Prelude.{◌≡◌, ℕ, ◌<◌, ◌+◌, IsTrue, List, [], ◌∷◌, ◌++◌, map, length}
use Rattle.sm_term.specs.Terms.{Tree, Lit, Start, Havoc, Slot, Cell, Read, Write, Neg, Add, Sub, Mul, Fun, Arguments, Over, Given}
use Rattle.sm_term.specs.Tables.{tree_at}
use Rattle.sm_term.specs.declared.term.TermId.{TermId}
use Rattle.sm_term.specs.Heads.{arguments_of}
use Rattle.sm_theory.specs.TermsOfFormulas.{put, with_term, is_among}
use Rattle.sm_terms.specs.declared.listing.Step.{Step}
use Rattle.sm_terms.specs.declared.listing.Step.TheVariants.{Visit, Put}

-- the trees with these numbers
abbrev pub trees_at : List Tree → List ℕ → List Tree
trees_at trees ns = map (tree_at trees) ns

-- the numbers of terms
abbrev pub numbers_of : List TermId → List ℕ
numbers_of ids = map (λ (t : TermId). t.0) ids

-- numbers are below a number
abbrev pub AreBelow : ℕ → List ℕ → Type 0
AreBelow count [] = Unit {0}
AreBelow count (n ∷ ns) = (n < count) × AreBelow count ns

-- each of these terms is among others
abbrev pub AllAmong : List Tree → List Tree → Type 0
AllAmong seen [] = Unit {0}
AllAmong seen (t ∷ ts) = IsTrue (is_among seen t) × AllAmong seen ts

-- the arguments of each term are there
abbrev pub IsClosed : List Tree → Type 0
IsClosed seen = (t : Tree) → IsTrue (is_among seen t) → AllAmong seen (arguments_of t)

-- what a step makes of terms
abbrev pub after : List Tree → Step → List Tree → List Tree
after trees (Visit n) seen = with_term (tree_at trees n) seen
after trees (Put n) seen = put (tree_at trees n) seen

-- what steps make of them, the last first
abbrev pub after_all : List Tree → List Step → List Tree → List Tree
after_all trees [] seen = seen
after_all trees (s ∷ above) seen = after trees s (after_all trees above seen)

-- where a term is put, its arguments are there
abbrev pub IsReady : List Tree → Step → List Tree → Type 0
IsReady trees (Visit n) seen = Unit {0}
IsReady trees (Put n) seen = AllAmong seen (arguments_of (tree_at trees n))

-- where steps put terms, each at its time, the arguments are there
abbrev pub AreReady : List Tree → List Step → List Tree → Type 0
AreReady trees [] seen = Unit {0}
AreReady trees (s ∷ above) seen =
    IsReady trees s (after_all trees above seen) × AreReady trees above seen

-- a step is for a term of the table
abbrev pub IsStepWithin : ℕ → Step → Type 0
IsStepWithin count (Visit n) = n < count
IsStepWithin count (Put n) = n < count

-- steps are for terms of the table
abbrev pub AreStepsWithin : ℕ → List Step → Type 0
AreStepsWithin count [] = Unit {0}
AreStepsWithin count (s ∷ ss) = IsStepWithin count s × AreStepsWithin count ss

-- steps that are left make these terms of those that are listed
pub record Leads (trees : List Tree) (ns : List ℕ) (steps : List Step) (terms : List Tree) :
    Type 0 where
  pub listed : AreBelow (length trees) ns
  pub within : AreStepsWithin (length trees) steps
  pub closed : IsClosed (trees_at trees ns)
  pub ready : AreReady trees steps (trees_at trees ns)
  pub made : after_all trees steps (trees_at trees ns) ≡ terms

-- visits of terms, the first of which is the next step
abbrev pub visits : List TermId → List Step
visits [] = []
visits (t ∷ ts) = visits ts ++ Visit t.0 ∷ []

abbrev mutual
  -- how many steps a visit of a term makes at most
  pub cost_of : Tree → ℕ
  cost_of (Lit z) = 2
  cost_of (Start x) = 2
  cost_of (Havoc k c x) = 2
  cost_of (Slot c x) = 2
  cost_of Cell = 2
  cost_of (Read a i) = 2 + (cost_of a + (cost_of i + 0))
  cost_of (Write a i e) = 2 + (cost_of a + (cost_of i + (cost_of e + 0)))
  cost_of (Neg t) = 2 + (cost_of t + 0)
  cost_of (Add t u) = 2 + (cost_of t + (cost_of u + 0))
  cost_of (Sub t u) = 2 + (cost_of t + (cost_of u + 0))
  cost_of (Mul t u) = 2 + (cost_of t + (cost_of u + 0))
  cost_of (Fun c x args) = 2 + cost_of_arguments args

  -- how many steps visits of arguments make at most
  pub cost_of_arguments : Arguments → ℕ
  cost_of_arguments Over = 0
  cost_of_arguments (Given x t rest) = cost_of t + cost_of_arguments rest

-- how many steps come of one step at most
abbrev pub cost_of_step : List Tree → Step → ℕ
cost_of_step trees (Visit n) = cost_of (tree_at trees n)
cost_of_step trees (Put n) = 1

-- how many steps come of several steps at most
abbrev pub cost_of_steps : List Tree → List Step → ℕ
cost_of_steps trees [] = 0
cost_of_steps trees (s ∷ ss) = cost_of_step trees s + cost_of_steps trees ss
