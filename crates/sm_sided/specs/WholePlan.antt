-- Cited by public clauses: the plan of a task in which each copy does all its statements by their
-- summary, and when certificates show what a plan asks.
use Rattle.std.specs.Prelude.{◌≡◌, ℕ, if◌then◌else◌, Ok, List, [], ◌∷◌, ◌++◌, map, length}
use Rattle.std.specs.List.{flat_map}
use Rattle.sm_syntax.specs.claim.Syntax.{Code}
use Rattle.sm_syntax.specs.claim.ConflictFree.{Copy, O, A, B, M, Task}
use Rattle.sm_syntax.specs.text.Sorts.{Sorts}
use Rattle.sm_term.specs.Assertions.{Assertion, negate}
use Rattle.sm_theory.specs.Facts.{BranchFact, Formal, as_facts}
use Rattle.sm_cert.specs.Certificates.{Certificate, Closes}
use Rattle.sm_plan.specs.Nodes as node
use Rattle.sm_plan.specs.Nodes.{Node}
use Rattle.sm_plan.specs.Plans.{Plan, At, Over, More, Due, obligations}
use Rattle.sm_plan.specs.Statements.{is_over}
use Rattle.sm_moves.specs.CodeShapes.{own_statements}

-- a copy does all its statements, where it has any, and then a plan follows
abbrev pub summary_before : (Copy → Code) → Copy → Plan → Plan
summary_before program c p =
    if is_over (program c) then p
    else At (node.Abs c (own_statements (program c))) (More p Over)

-- each copy does, and then all are at their ends
abbrev pub whole_plan : (Copy → Code) → Plan
whole_plan program =
    summary_before program O
    (summary_before program A
    (summary_before program B (summary_before program M (At node.Ends Over))))

-- the branch that a goal's certificate closes: the facts, and that the goal doesn't hold
abbrev pub denied : List Assertion → Assertion → List BranchFact
denied facts goal = as_facts facts ++ Formal (negate goal) ∷ []

-- the branches of the goals of a node
abbrev pub denied_goals : Due → List (List BranchFact)
denied_goals d = map (denied d.facts) d.goals

-- certificates close branches, in order
abbrev pub AreClosed : Sorts → List (List BranchFact) → List Certificate → Type 0
AreClosed sorts [] [] = Unit {0}
AreClosed sorts [] (c ∷ cs) = ⊥
AreClosed sorts (branch ∷ branches) [] = ⊥
AreClosed sorts (branch ∷ branches) (c ∷ cs) =
    Closes sorts branch c × AreClosed sorts branches cs

-- a plan expands, and certificates show its goals in order
pub record IsShown (sorts : Sorts) (t : Task) (p : Plan) (cs : List Certificate) : Type 0 where
  pub dues : List Due
  pub expands : obligations t p ≡ Ok dues
  pub closed : AreClosed sorts (flat_map denied_goals dues) cs

-- how many facts stand before the first goal, 0 where there is none
abbrev pub facts_before : List Due → ℕ
facts_before [] = 0
facts_before (d ∷ ds) = length d.facts

-- a node keeps no formula
abbrev pub KeepsNone : Node → Type 0
KeepsNone (node.Step c) = Unit {0}
KeepsNone (node.Abs c n) = Unit {0}
KeepsNone (node.Fork c) = Unit {0}
KeepsNone (node.Loop set keep) = ⊥
KeepsNone (node.Block counts keep) = ⊥
KeepsNone node.Dead = Unit {0}
KeepsNone node.Ends = Unit {0}
KeepsNone (node.Unfit rule) = Unit {0}
