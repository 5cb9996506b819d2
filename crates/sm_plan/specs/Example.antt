-- Cited by public clauses: a worked plan. The shared program is `while (i < n) { ?1 i = i + 1; }`,
-- with x = x + 1 for the hole in the base and in B, and x = x + 2 in A and in the candidate; the
-- output is x. The loops of the base and of B are one summary, and those of A and of the candidate
-- run together, with equal i and x.
use Rattle.std.specs.Prelude.{◌≡◌, ℕ, pos, true, false, None, Ok, List, [], ◌∷◌}
use Rattle.sm_syntax.specs.declared.tree.Cmp.TheVariants as cmp
use Rattle.sm_syntax.specs.declared.tree.Sort.TheVariants.{Num}
use Rattle.sm_syntax.specs.claim.Syntax.{Code, End, Assign, While, Hole, Compare, Var, Plus}
use Rattle.sm_syntax.specs.claim.Syntax as syntax
use Rattle.sm_syntax.specs.text.Parts.{by_copy}
use Rattle.sm_syntax.specs.claim.ConflictFree.{Copy, O, A, B, M, Task, ConflictFree}
use Rattle.sm_term.specs.Terms.{Tree, Lit, Start, Havoc, Slot, Add, Fun, Arguments, Given}
use Rattle.sm_term.specs.Terms as term
use Rattle.sm_term.specs.Assertions.{Assertion, No, Eq, Ne, Le, Lt, And, Or}
use Rattle.sm_plan.specs.Copies.{Copies}
use Rattle.sm_plan.specs.Nodes.{Node, Step, Abs, Loop, Dead, Ends}
use Rattle.sm_plan.specs.Plans.{Plan, At, Over, More, IsFresh, Due, obligations, AllDischarged}

-- the names
abbrev pub i : ℕ
i = 0

abbrev pub n : ℕ
n = 1

abbrev pub x : ℕ
x = 2

-- x = x + z
abbrev pub increments : ℕ → Code
increments z = Assign x (Plus (Var x) (syntax.Lit (pos z))) End

-- the loop with code at its hole
abbrev pub loop_with : Code → Code
loop_with c = While (Compare cmp.Lt (Var i) (Var n)) c End

-- the task
abbrev pub example_task : Task
example_task = record {
  assumed = None;
  outputs = (x, Num) ∷ [];
  shared = loop_with (Hole 1 (Assign i (Plus (Var i) (syntax.Lit (pos 1))) End));
  fillings =
      by_copy ((1, increments 1) ∷ []) ((1, increments 2) ∷ []) ((1, increments 1) ∷ [])
      ((1, increments 2) ∷ []);
}

-- A and the candidate
abbrev pub edited : Copies
edited = record { base = false; variant_a = true; variant_b = false; candidate = true }

-- their i and x are equal
abbrev pub kept : Assertion
kept = And (Eq Num (Slot A i) (Slot M i)) (Eq Num (Slot A x) (Slot M x))

-- one state that follows
abbrev pub then_one : Node → Plan → Plan
then_one node p = At node (More p Over)

-- the plan: a turn of A alone or of the candidate alone can't be, and one of both keeps what is
-- kept
abbrev pub example_plan : Plan
example_plan =
    then_one (Abs O 1)
    (then_one (Abs B 1)
    (At (Loop edited kept)
    (More (At Dead Over)
    (More (At Dead Over)
    (More
    (then_one (Step A) (then_one (Step A) (then_one (Step M) (then_one (Step M) (At Ends Over)))))
    (More (At Ends Over) Over))))))

-- the loop of the base
abbrev pub base_loop : Code
base_loop =
    let counts : Code = Assign i (Plus (Var i) (syntax.Lit (pos 1))) End in
    loop_with (Assign x (Plus (Var x) (syntax.Lit (pos 1))) counts)

-- the summary of a name after the loop of the base, which is that of B
abbrev pub loop_summary : ℕ → Tree
loop_summary y =
    Fun base_loop y (Given i (Start i) (Given n (Start n) (Given x (Start x) term.Over)))

-- the summary of i after the loop of the base, which doesn't need x
abbrev pub counted : Tree
counted =
    Fun base_loop i (Given i (Start i) (Given n (Start n) term.Over))

-- the facts after both summaries, and then those of the loops, with what is said of two guards
abbrev pub facts_with : List Assertion → List Assertion
facts_with guards = Le (Start n) counted ∷ Le (Start n) counted ∷ guards

-- those at the head of the loops
abbrev pub head_with : Assertion → Assertion → List Assertion
head_with of_a of_m =
    facts_with
    (Eq Num (Havoc 2 A i) (Havoc 2 M i) ∷ Eq Num (Havoc 2 A x) (Havoc 2 M x) ∷ of_a ∷ of_m ∷ [])

-- a copy goes on, or its loop has ended
abbrev pub goes_on : Copy → Assertion
goes_on c = Lt (Havoc 2 c i) (Start n)

abbrev pub has_ended : Copy → Assertion
has_ended c = Le (Start n) (Havoc 2 c i)

-- after a turn of both, what is kept
abbrev pub kept_goals : List Assertion
kept_goals =
    Eq Num (Add (Havoc 2 A i) (Lit (pos 1))) (Add (Havoc 2 M i) (Lit (pos 1)))
    ∷ Eq Num (Add (Havoc 2 A x) (Lit (pos 2))) (Add (Havoc 2 M x) (Lit (pos 2)))
    ∷ []

-- at the ends, the goals of x
abbrev pub end_goals : List Assertion
end_goals =
    let base : Tree = loop_summary x in
    let in_a : Tree = Havoc 2 A x in
    let in_m : Tree = Havoc 2 M x in
    Or (Eq Num base in_a) (Eq Num in_m in_a)
    ∷ Or (Eq Num base base) (Eq Num in_m base)
    ∷ Or (Ne Num base in_a) (Or (Ne Num in_a base) (Eq Num in_m base))
    ∷ []

-- goals of a node that are not final
abbrev pub inner_due : ℕ → List Assertion → List Assertion → Due
inner_due k facts goals = record { node = k; facts = facts; goals = goals; is_final = false }

-- its obligations
abbrev pub example_dues : List Due
example_dues =
    inner_due 2 (facts_with []) (Eq Num (Start i) (Start i) ∷ Eq Num (Start x) (Start x) ∷ [])
    ∷ inner_due 3 (head_with (goes_on A) (has_ended M)) (No ∷ [])
    ∷ inner_due 4 (head_with (has_ended A) (goes_on M)) (No ∷ [])
    ∷ inner_due 9 (head_with (goes_on A) (goes_on M)) kept_goals
    ∷ record {
      node = 10;
      facts = head_with (has_ended A) (has_ended M);
      goals = end_goals;
      is_final = true;
    }
    ∷ []

-- the plan is fresh, these are its obligations, all of them hold in every structure, and so the
-- task is free of conflicts
abbrev pub ExampleHolds : Type 0
ExampleHolds =
    IsFresh 0 example_plan
    × (obligations example_task example_plan ≡ Ok example_dues)
    × AllDischarged example_dues
    × ConflictFree example_task
