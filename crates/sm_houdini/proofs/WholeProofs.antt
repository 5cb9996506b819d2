-- The plan of a one-sided task can be written with its certificates.
use Rattle.sm_houdini.proofs.Imports.{◌≡◌, ℕ, zero, suc, ◌+◌, ◌<◌, ◌≤◌, ◌^◌, List, [], ◌∷◌, ◌++◌, length, refl, sym, ap, ◌∙◌, subst, arith, AllByRecursion, flat_map, map-append, Parts, sort_of, task_of, Sorts, Assertion, BranchFact, Certificate, Node, nodes_of, denied_goals, AreClosed, IsShown, KeepsNone, AreKeptPlain, ArePlainLines, branches_of, CloseEach, Goal, goals_of, all_goals, AreShortNumbers, IsShort, AreShort, IsWritable}
use Rattle.std.proofs.Common.{map}
use Rattle.sm_plan.specs.Nodes as node
use Rattle.sm_plan.specs.Plans.{Plan, Due}
use Rattle.sm_sided.specs.WholeCertificates.{by_first, by_second, by_clash, by_turned, certificates_of, whole_certificates, AreWhole, NamesNoTerm}
use Rattle.sm_sided.specs.declared.sided.Change.{Change}
use Rattle.sm_sided.specs.declared.sided.Change.TheVariants.{OfA, OfB, OfBoth}
use Rattle.sm_sided.specs.WholePlan as whole
use Rattle.sm_write.specs.Writable as written
use Rattle.sm_write.proofs.PlainWritable.{plain_plans_are_writable}

-- no line is long
few_one : (n : ℕ) → n < 2 ^ 63 → (length (n ∷ []) ≤ 200) × AreShortNumbers (n ∷ [])
few_one n h = (omega arith, (h, tt))

few_two : (m n : ℕ) → m < 2 ^ 63 → n < 2 ^ 63 → (length (m ∷ n ∷ []) ≤ 200) × AreShortNumbers (m ∷ n ∷ [])
few_two m n g h = (omega arith, (g, (h, tt)))

low : (n k : ℕ) → n < 2 ^ 62 → k ≤ 5 → n + k < 2 ^ 63
low n k h few = omega (arith, h, few)

low_own : (n : ℕ) → n < 2 ^ 62 → n < 2 ^ 63
low_own n h = omega (arith, h)

first_short : (n : ℕ) → n < 2 ^ 62 → IsShort (by_first n)
first_short n h = (few_one n (low_own n h), few_one (n + 1) (low n 1 h (omega arith)))

second_short : (n : ℕ) → n < 2 ^ 62 → IsShort (by_second n)
second_short n h = (few_one n (low_own n h), few_one (n + 2) (low n 2 h (omega arith)))

clash_short : (n : ℕ) → n < 2 ^ 62 → IsShort (by_clash n)
clash_short n h = (
  few_one n (low_own n h),
  (
    few_one (n + 2) (low n 2 h (omega arith)),
    few_two (n + 3) (n + 4) (low n 3 h (omega arith)) (low n 4 h (omega arith)),
  ),
)

turned_short : (n m : ℕ) → n < 2 ^ 62 → m < 2 ^ 63 → IsShort (by_turned n m)
turned_short n m h g = (
  few_one n (low_own n h),
  (
    few_one (n + 2) (low n 2 h (omega arith)),
    (few_one m g, few_two (n + 5) (n + 4) (low n 5 h (omega arith)) (low n 4 h (omega arith))),
  ),
)

certificates_short : (change : Change) (n : ℕ) (cs : List Certificate) → n < 2 ^ 62 → AreShort cs → AreShort (certificates_of change n ++ cs)
certificates_short OfA n cs h rest = (second_short n h, (first_short n h, (clash_short n h, rest)))
certificates_short OfB n cs h rest = (first_short n h, (second_short n h, (turned_short n (n + 3) h (low n 3 h (omega arith)), rest)))
certificates_short OfBoth n cs h rest = (second_short n h, (second_short n h, (turned_short n (n + 1) h (low n 1 h (omega arith)), rest)))

whole_short : (change : Change) (n outputs : ℕ) → n < 2 ^ 62 → AreShort (whole_certificates change n outputs)
whole_short change n zero h = tt
whole_short change n (suc outputs) h = certificates_short change n _ h (whole_short change n outputs h)

-- nodes keep nothing, and lines name nothing
node_plain : (ns : List Node) → AllByRecursion KeepsNone ns → AreKeptPlain ns
node_plain [] h = tt
node_plain (node.Step c ∷ ns) h = (tt, node_plain ns h.1)
node_plain (node.Abs c n ∷ ns) h = (tt, node_plain ns h.1)
node_plain (node.Fork c ∷ ns) h = (tt, node_plain ns h.1)
node_plain (node.Loop set keep ∷ ns) h = absurd h.0
node_plain (node.Block counts keep ∷ ns) h = absurd h.0
node_plain (node.Dead ∷ ns) h = (tt, node_plain ns h.1)
node_plain (node.Ends ∷ ns) h = (tt, node_plain ns h.1)
node_plain (node.Unfit rule ∷ ns) h = (tt, node_plain ns h.1)

lines_plain : (cs : List Certificate) → AllByRecursion NamesNoTerm cs → ArePlainLines cs
lines_plain [] h = tt
lines_plain (c ∷ cs) h = (h.0, lines_plain cs h.1)

-- the branches are the same
due_branches : (node : ℕ) (facts goals : List Assertion) →
    branches_of (map (λ (g : Assertion). record { node = node; branch = written.denied facts g }) goals)
    ≡ map (λ (g : Assertion). whole.denied facts g) goals
due_branches node facts [] = refl
due_branches node facts (g ∷ gs) =
    ap (λ (l : List (List BranchFact)). whole.denied facts g ∷ l) (due_branches node facts gs)

all_branches : (ds : List Due) → branches_of (all_goals ds) ≡ flat_map denied_goals ds
all_branches [] = refl
all_branches (d ∷ ds) =
    map-append (λ (g : Goal). g.branch) (goals_of d) (all_goals ds)
    ∙ (λ i. due_branches d.node d.facts d.goals i ++ all_branches ds i)

close_each : (sorts : Sorts) (bs : List (List BranchFact)) (cs : List Certificate) → AreClosed sorts bs cs → CloseEach sorts bs cs
close_each sorts [] [] h = tt
close_each sorts [] (c ∷ cs) h = absurd h
close_each sorts (b ∷ bs) [] h = absurd h
close_each sorts (b ∷ bs) (c ∷ cs) h = (h.0, close_each sorts bs cs h.1)

pub whole_writable : (t : Parts) (p : Plan) (cs : List Certificate) (outputs : ℕ) → IsShown (sort_of t.declared) (task_of t) p cs →
    AllByRecursion KeepsNone (nodes_of p) → AllByRecursion NamesNoTerm cs → AreWhole outputs cs → IsWritable t p cs
whole_writable t p cs outputs shown keeps unnamed all =
    plain_plans_are_writable t p cs shown.dues shown.expands (node_plain (nodes_of p) keeps)
    (subst (λ (bs : List (List BranchFact)). CloseEach (sort_of t.declared) bs cs) (sym (all_branches shown.dues))
    (close_each (sort_of t.declared) (flat_map denied_goals shown.dues) cs shown.closed))
    (lines_plain cs unnamed) (subst AreShort (sym all.3) (whole_short all.0 all.1 outputs all.2))
