-- Cited by public clauses: plans that keep no formula, with certificates that name no term. They
-- can be written wherever they expand and the certificates close what the plan asks.
use Rattle.std.specs.Prelude.{◌≡◌, Ok, List, [], ◌∷◌, map}
use Rattle.sm_syntax.specs.text.Parts.{Parts, sort_of, task_of}
use Rattle.sm_syntax.specs.text.Sorts.{Sorts}
use Rattle.sm_term.specs.Terms.{Tree}
use Rattle.sm_theory.specs.Facts.{BranchFact}
use Rattle.sm_cert.specs.Certificates.{Certificate, Closes}
use Rattle.sm_cert.specs.NamedTerms.{EachTerm}
use Rattle.sm_plan.specs.Nodes.{Node}
use Rattle.sm_plan.specs.Plans.{Plan, nodes_of, Due, obligations}
use Rattle.sm_write.specs.Writable.{Goal, all_goals, EachKept, AreShort, IsWritable}

-- no term is of this kind
abbrev pub NoTerm : Tree → Type 0
NoTerm t = ⊥

-- what nodes keep compares no terms
abbrev pub AreKeptPlain : List Node → Type 0
AreKeptPlain [] = Unit {0}
AreKeptPlain (node ∷ nodes) = EachKept NoTerm node × AreKeptPlain nodes

-- certificates name no term
abbrev pub ArePlainLines : List Certificate → Type 0
ArePlainLines [] = Unit {0}
ArePlainLines (c ∷ cs) = EachTerm NoTerm c × ArePlainLines cs

-- the branches of goals
abbrev pub branches_of : List Goal → List (List BranchFact)
branches_of goals = map (λ (g : Goal). g.branch) goals

-- certificates close branches, in order
abbrev pub CloseEach : Sorts → List (List BranchFact) → List Certificate → Type 0
CloseEach sorts [] [] = Unit {0}
CloseEach sorts [] (c ∷ cs) = ⊥
CloseEach sorts (b ∷ bs) [] = ⊥
CloseEach sorts (b ∷ bs) (c ∷ cs) = Closes sorts b c × CloseEach sorts bs cs

-- such a plan can be written
abbrev pub PlainPlansAreWritable : Type 0
PlainPlansAreWritable =
    (t : Parts) (p : Plan) (cs : List Certificate) (dues : List Due) →
    obligations (task_of t) p ≡ Ok dues → AreKeptPlain (nodes_of p) →
    CloseEach (sort_of t.declared) (branches_of (all_goals dues)) cs →
    ArePlainLines cs → AreShort cs → IsWritable t p cs
