-- Cited by public clauses: three cases worked by hand.
--
-- A candidate that never ends: `x = 1;` in the base and in B, `x = 2;` in A, and
-- `while (true) { skip; }` in the candidate. After the candidate's loop its guard can't be false,
-- so there is nothing to show.
--
-- Loops with unequal turns: `i = 0;` and then `while (i < n) { i = i + 1; }`, but
-- `while (i < n + 1) { i = i + 1; }` in A. A turn of the base alone comes first, where A has
-- nothing to do. No plan shows this merge.
--
-- Loops with unequal steps: `while (y > 0) { x = x + 2; y = y - 1; }`, but `x = x + 1;` in A.
-- Summaries of different code are different terms. No plan shows this merge.
use Rattle.std.specs.Prelude.{◌≡◌, ℕ, suc, pos, true, false, Option, Some, None, option_map, Ok, List, [], ◌∷◌, ◌++◌, length}
use Rattle.sm_syntax.specs.declared.tree.Cmp.TheVariants as cmp
use Rattle.sm_syntax.specs.declared.tree.Sort.TheVariants.{Num}
use Rattle.sm_syntax.specs.claim.Syntax.{Condition, Code, End, Skip, Assign, While, Hole, Compare, Expression, Var, Lit, Plus, Minus}
use Rattle.sm_syntax.specs.claim.Syntax as syntax
use Rattle.sm_syntax.specs.text.Parts.{by_copy}
use Rattle.sm_syntax.specs.claim.ConflictFree.{Copy, O, A, B, M, Task, ConflictFree}
use Rattle.sm_term.specs.Assertions.{Yes, No}
use Rattle.sm_plan.specs.Copies.{Copies, copies_that}
use Rattle.sm_plan.specs.States.{State, start_state}
use Rattle.sm_plan.specs.Nodes.{Node, Step, Loop, Dead, Ends, Opened, opened_by}
use Rattle.sm_plan.specs.Plans.{Plan, At, Over, More, IsFresh, Due, obligations, AllDischarged}
use Rattle.sm_plan.specs.Example.{then_one}

-- a task whose one hole stands after the code, with one output
abbrev pub task_with : (Code → Code) → Code → Code → Code → Code → Task
task_with before o a b m = record {
  assumed = None;
  outputs = (0, Num) ∷ [];
  shared = before (Hole 1 End);
  fillings = by_copy ((1, o) ∷ []) ((1, a) ∷ []) ((1, b) ∷ []) ((1, m) ∷ []);
}

-- no plan shows that a task is free of conflicts
abbrev pub IsUnprovable : Task → Type 0
IsUnprovable t =
    (p : Plan) (ds : List Due) → IsFresh 0 p → obligations t p ≡ Ok ds → AllDischarged ds → ⊥

-- x gets a value
abbrev pub gives : ℕ → Code
gives z = Assign 0 (Lit (pos z)) End

-- a candidate that never ends
abbrev pub never_ends : Task
never_ends =
    task_with (λ (k : Code). k) (gives 1) (gives 2) (gives 1) (While syntax.Yes (Skip End) End)

-- its plan: after the loop the facts can't be
abbrev pub never_plan : Plan
never_plan =
    then_one (Step O)
    (then_one (Step A)
    (then_one (Step B)
    (At (Loop (record { base = false; variant_a = false; variant_b = false; candidate = true }) Yes)
    (More (then_one (Step M) (At Ends Over)) (More (At Dead Over) Over)))))

-- one obligation, with a fact that can't be
abbrev pub NeverEndsIsFree : Type 0
NeverEndsIsFree =
    let due : Due = record { node = 6; facts = No ∷ []; goals = No ∷ []; is_final = false } in
    (obligations never_ends never_plan ≡ Ok (due ∷ [])) × ConflictFree never_ends

-- i counts up to a limit
abbrev pub counts_to : Expression → Code
counts_to limit =
    While (Compare cmp.Lt (Var 0) limit) (Assign 0 (Plus (Var 0) (Lit (pos 1))) End) End

-- loops with unequal turns, where name 1 is n
abbrev pub unequal_turns : Task
unequal_turns =
    let below : Code = counts_to (Var 1) in
    let beyond : Code = counts_to (Plus (Var 1) (Lit (pos 1))) in
    task_with (λ (k : Code). Assign 0 (Lit (pos 0)) k) below beyond below below

-- goes on with what a node opens
abbrev pub opened_then : Option Opened → (Opened → Option (List State)) → Option (List State)
opened_then None f = None
opened_then (Some q) f = f q

-- what is pending after nodes, where each fits
abbrev pub pending_after : ℕ → List State → List Node → Option (List State)
pending_after k states [] = Some states
pending_after k [] (node ∷ nodes) = None
pending_after k (st ∷ states) (node ∷ nodes) =
    opened_then (opened_by k st node)
    (λ (q : Opened). pending_after (suc k) (q.states ++ states) nodes)

-- each copy before its loop, the four loops, and the body of the base; fifteen turns and what is
-- after the loops are pending
abbrev pub first_nodes : List Node
first_nodes =
    let all : Copies = copies_that (λ (c : Copy). true) in
    Step O ∷ Step A ∷ Step B ∷ Step M ∷ Loop all Yes ∷ Step O ∷ []

-- then A can't take a step
abbrev pub UnequalTurnsFail : Type 0
UnequalTurnsFail =
    (option_map length (pending_after 0 (start_state unequal_turns ∷ []) first_nodes) ≡ Some 16)
    × (pending_after 0 (start_state unequal_turns ∷ []) (first_nodes ++ Step A ∷ []) ≡ None)
    × IsUnprovable unequal_turns

-- x grows by a step while y is above 0
abbrev pub grows_by : ℕ → Code
grows_by z =
    While (Compare cmp.Gt (Var 1) (Lit (pos 0)))
    (Assign 0 (Plus (Var 0) (Lit (pos z))) (Assign 1 (Minus (Var 1) (Lit (pos 1))) End))
    End

-- loops with unequal steps
abbrev pub unequal_steps : Task
unequal_steps = task_with (λ (k : Code). k) (grows_by 2) (grows_by 1) (grows_by 2) (grows_by 2)

-- all three
abbrev pub CasesComeOut : Type 0
CasesComeOut = NeverEndsIsFree × UnequalTurnsFail × IsUnprovable unequal_steps
