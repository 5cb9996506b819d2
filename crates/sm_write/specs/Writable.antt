-- Cited by public clauses: plans with certificates that can be written as a proof file.
use Rattle.std.specs.Prelude.{◌≡◌, ℕ, suc, ◌≤◌, ◌<◌, ◌^◌, Ok, List, [], ◌∷◌, ◌++◌, length, map, take}
use Rattle.std.specs.List.{flat_map}
use Rattle.sm_syntax.specs.text.Parts.{Parts, sort_of, task_of}
use Rattle.sm_syntax.specs.text.Sorts.{Sorts}
use Rattle.sm_term.specs.Terms.{Tree}
use Rattle.sm_term.specs.Assertions.{Assertion, negate}
use Rattle.sm_theory.specs.Facts.{BranchFact, Formal, as_facts}
use Rattle.sm_theory.specs.Lines.{CertificateLine}
use Rattle.sm_theory.specs.Named.{facts_named}
use Rattle.sm_cert.specs.Certificates.{Certificate, Next, Closed, Split, Closes}
use Rattle.sm_cert.specs.NamedTerms.{EachTerm}
use Rattle.sm_plan.specs.Nodes.{Node, Step, Abs, Fork, Loop, Block, Dead, Ends, Unfit}
use Rattle.sm_plan.specs.Plans.{Plan, nodes_of, Due, obligations}
use Rattle.sm_plan.specs.States.{State, start_state}
use Rattle.sm_write.specs.Nameable.{EachSide, Nameable}
use Rattle.sm_write.specs.PlanStates.{plan_states}

-- a goal: the node that asks it, and the branch that a certificate must close, which has the facts
-- and says that the goal doesn't hold
pub record Goal : Type 0 where
  pub node : ℕ
  pub branch : List BranchFact

-- the branch of a goal
abbrev pub denied : List Assertion → Assertion → List BranchFact
denied facts goal = as_facts facts ++ Formal (negate goal) ∷ []

-- the goals of what a node asks
abbrev pub goals_of : Due → List Goal
goals_of d = map (λ (g : Assertion). record { node = d.node; branch = denied d.facts g }) d.goals

-- the goals of all obligations, in order
abbrev pub all_goals : List Due → List Goal
all_goals ds = flat_map goals_of ds

-- the states of the nodes up to a number
abbrev pub states_until : List State → ℕ → List State
states_until states node = take (suc node) states

-- each goal has a certificate, in order: it closes the branch, and names only terms that can be
-- named after the states of the nodes up to the goal's
abbrev pub AreShown : Sorts → List State → List Goal → List Certificate → Type 0
AreShown sorts states [] [] = Unit {0}
AreShown sorts states [] (c ∷ cs) = ⊥
AreShown sorts states (g ∷ gs) [] = ⊥
AreShown sorts states (g ∷ gs) (c ∷ cs) =
    Closes sorts g.branch c
    × EachTerm (Nameable sorts (states_until states g.node)) c
    × AreShown sorts states gs cs

-- something is so of each term that a node's kept formula compares
abbrev pub EachKept : (Tree → Type 0) → Node → Type 0
EachKept P (Step c) = Unit {0}
EachKept P (Abs c n) = Unit {0}
EachKept P (Fork c) = Unit {0}
EachKept P (Loop set keep) = EachSide P keep
EachKept P (Block counts keep) = EachSide P keep
EachKept P Dead = Unit {0}
EachKept P Ends = Unit {0}
EachKept P (Unfit rule) = Unit {0}

-- kept formulas, of nodes numbered from n on, compare only terms that can be named where the node
-- stands
abbrev pub AreKeptNameable : Sorts → List State → ℕ → List Node → Type 0
AreKeptNameable sorts states n [] = Unit {0}
AreKeptNameable sorts states n (node ∷ nodes) =
    EachKept (Nameable sorts (states_until states n)) node
    × AreKeptNameable sorts states (suc n) nodes

-- numbers of at most 19 digits
abbrev pub AreShortNumbers : List ℕ → Type 0
AreShortNumbers [] = Unit {0}
AreShortNumbers (n ∷ ns) = (n < 2 ^ 63) × AreShortNumbers ns

-- a line with few facts of short numbers: its text is no longer than a line may be, where it is a
-- line of a certificate that closes its branch
abbrev pub IsShortLine : CertificateLine → Type 0
IsShortLine line = (length (facts_named line) ≤ 200) × AreShortNumbers (facts_named line)

-- each line of a certificate is such a line
abbrev pub IsShort : Certificate → Type 0
IsShort (Next line c) = IsShortLine line × IsShort c
IsShort (Closed line) = IsShortLine line
IsShort (Split line c d) = IsShortLine line × IsShort c × IsShort d

-- each line of each certificate has few facts, with short numbers
abbrev pub AreShort : List Certificate → Type 0
AreShort [] = Unit {0}
AreShort (c ∷ cs) = IsShort c × AreShort cs

-- a plan whose obligations are shown by certificates, in which all that is named can be named
pub record IsWritable (t : Parts) (p : Plan) (cs : List Certificate) : Type 0 where
  pub dues : List Due
  pub expands : obligations (task_of t) p ≡ Ok dues
  pub kept :
      AreKeptNameable (sort_of t.declared) (plan_states 0 (start_state (task_of t)) p) 0 (nodes_of p)
  pub shown :
      AreShown (sort_of t.declared) (plan_states 0 (start_state (task_of t)) p) (all_goals dues) cs
  pub short : AreShort cs
