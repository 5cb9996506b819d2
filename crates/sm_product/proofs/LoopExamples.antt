-- Tasks whose holes stand in a loop or are loops, each with its product and its templates, worked by hand.
use Rattle.sm_product.proofs.Imports.{◌≡◌, ℕ, pos, refl, true, Option, None, Some, List, [], ◌∷◌, ◌++◌, length, Num, Arr, Expression, Condition, Code, End, Assign, Write, While, Hole, Compare, Var, Read, Plus, Copy, O, A, B, M, Parts, by_copy, task_of, Tree, Start, Slot, Cell, Add, Assertion, Eq, Ne, Le, Or, Step, Abs, Ends, size, Fault, obligations, nodes_of, all_copies, Sketches, Draw, Plain, LoopSite, Over, More, sites_of, sketch_of, site_count, templates, plan_of, full_choice, goals_in, facts_in, is_small}
use Rattle.std.proofs.Common.{Result, Ok, Err}
use Rattle.sm_syntax.specs.declared.tree.Cmp.TheVariants as cmp
use Rattle.sm_syntax.specs.claim.Syntax as syntax
use Rattle.sm_term.specs.Terms.{Lit}
use Rattle.sm_term.specs.Terms as term
use Rattle.sm_plan.specs.Limits.{is_kept, is_shallow}
use Rattle.sm_plan.specs.Plans.{Due}
use Rattle.sm_sketch.specs.Sketches.{Sketch}
use Rattle.sm_product.specs.Sizes.{is_within}

-- one node for each copy of a list, and then a sketch
abbrev pub steps : List Copy → Sketch → Sketch
steps [] next = next
steps (c ∷ rest) next = Draw (Plain (Step c)) (More (steps rest next) Over)

-- the end
abbrev pub the_end : Sketch
the_end = Draw (Plain Ends) Over

-- the subsets of the four copies that have one, by ascending mask
abbrev turning : List (List Copy)
turning =
    (O ∷ []) ∷ (A ∷ []) ∷ (O ∷ A ∷ []) ∷ (B ∷ []) ∷ (O ∷ B ∷ []) ∷ (A ∷ B ∷ []) ∷ (O ∷ A ∷ B ∷ [])
    ∷ (M ∷ []) ∷ (O ∷ M ∷ []) ∷ (A ∷ M ∷ []) ∷ (O ∷ A ∷ M ∷ []) ∷ (B ∷ M ∷ []) ∷ (O ∷ B ∷ M ∷ []) ∷ (A ∷ B ∷ M ∷ [])
    ∷ (O ∷ A ∷ B ∷ M ∷ []) ∷ []

-- a sketch for each of them, and the end
abbrev turns : (List Copy → Sketch) → List (List Copy) → Sketches
turns turn [] = More the_end Over
turns turn (v ∷ rest) = More (turn v) (turns turn rest)

-- two copies have the same number
abbrev pub same : ℕ → Copy → Copy → Assertion
same x c d = Eq Num (Slot c x) (Slot d x)

-- the number of the second copy is that of the first and one more
abbrev pub one_more : ℕ → Copy → Copy → Assertion
one_more x c d = Eq Num (Slot d x) (Add (Slot c x) (Lit (pos 1)))

-- a copy's number is that of the start
abbrev pub as_before : ℕ → Copy → Assertion
as_before x c = Eq Num (Slot c x) (Start x)

-- a copy's number is at most another of it
abbrev at_most : ℕ → ℕ → Copy → Assertion
at_most x y c = Le (Slot c x) (Slot c y)

-- the templates of a number, where 1 is the only literal of the fillings
abbrev pub of_number : ℕ → List Assertion
of_number x =
    same x O A ∷ same x O B ∷ same x O M ∷ same x A B ∷ same x A M ∷ same x B M
    ∷ Or (same x O A) (same x M A) ∷ Or (same x O B) (same x M B)
    ∷ Or (Ne Num (Slot O x) (Slot A x)) (Or (Ne Num (Slot A x) (Slot B x)) (same x M O))
    ∷ as_before x O ∷ as_before x A ∷ as_before x B ∷ as_before x M
    ∷ one_more x O A ∷ one_more x A O ∷ one_more x O B ∷ one_more x B O ∷ one_more x O M ∷ one_more x M O
    ∷ one_more x A B ∷ one_more x B A ∷ one_more x A M ∷ one_more x M A ∷ one_more x B M ∷ one_more x M B
    ∷ []

-- two copies have the same array, or the same cell of it
abbrev same_array : ℕ → Copy → Copy → Assertion
same_array x c d = Eq Arr (Slot c x) (Slot d x)

abbrev cell : Copy → ℕ → Tree
cell c x = term.Read (Slot c x) Cell

abbrev same_cell : ℕ → Copy → Copy → Assertion
same_cell x c d = Eq Num (cell c x) (cell d x)

-- the start's array, and its cell
abbrev array_before : ℕ → Copy → Assertion
array_before x c = Eq Arr (Slot c x) (Start x)

abbrev cell_before : ℕ → Copy → Assertion
cell_before x c = Eq Num (cell c x) (term.Read (Start x) Cell)

-- the templates of an array
abbrev of_array : ℕ → List Assertion
of_array x =
    same_array x O A ∷ same_array x O B ∷ same_array x O M ∷ same_array x A B ∷ same_array x A M ∷ same_array x B M
    ∷ same_cell x O A ∷ same_cell x O B ∷ same_cell x O M ∷ same_cell x A B ∷ same_cell x A M ∷ same_cell x B M
    ∷ Or (same_cell x O A) (same_cell x M A) ∷ Or (same_cell x O B) (same_cell x M B)
    ∷ Or (Ne Num (cell O x) (cell A x)) (Or (Ne Num (cell A x) (cell B x)) (same_cell x M O))
    ∷ array_before x O ∷ cell_before x O ∷ array_before x A ∷ cell_before x A
    ∷ array_before x B ∷ cell_before x B ∷ array_before x M ∷ cell_before x M
    ∷ []

-- i = i + 1;
abbrev counts : Code → Code
counts k = Assign 0 (Plus (Var 0) (syntax.Lit (pos 1))) k

-- i < n
abbrev below_n : Condition
below_n = Compare cmp.Lt (Var 0) (Var 1)

-- Two edits in one loop: the names are i, n, a, c, out, log, and the shared code is
-- `i = 0; while (i < n) { ?1; ?2; i = i + 1; }`. The base has `out[i] = a[i];` and `log[i] = c[i];`, A adds 1
-- to the first value, B adds i to the second, and the candidate does both.
abbrev writes : ℕ → Expression → Code
writes a e = Write a (Var 0) e End

abbrev of_a : Expression
of_a = Read 2 (Var 0)

abbrev of_c : Expression
of_c = Read 3 (Var 0)

abbrev of_a_and_1 : Expression
of_a_and_1 = Plus of_a (syntax.Lit (pos 1))

abbrev of_c_and_i : Expression
of_c_and_i = Plus of_c (Var 0)

abbrev pub two_edits : Parts
two_edits = record {
  names = [];
  declared = (0, Num) ∷ (1, Num) ∷ (2, Arr) ∷ (3, Arr) ∷ (4, Arr) ∷ (5, Arr) ∷ [];
  outputs = 4 ∷ 5 ∷ [];
  assumed = None;
  shared = Assign 0 (syntax.Lit (pos 0)) (While below_n (Hole 1 (Hole 2 (counts End))) End);
  fillings = by_copy
      ((1, writes 4 of_a) ∷ (2, writes 5 of_c) ∷ [])
      ((1, writes 4 of_a_and_1) ∷ (2, writes 5 of_c) ∷ [])
      ((1, writes 4 of_a) ∷ (2, writes 5 of_c_and_i) ∷ [])
      ((1, writes 4 of_a_and_1) ∷ (2, writes 5 of_c_and_i) ∷ []);
}

-- its one site has 25 templates of i, 23 of out and of log, and 4 of the guard
abbrev two_edits_templates : List Assertion
two_edits_templates =
    of_number 0 ++ of_array 4 ++ of_array 5
    ++ at_most 0 1 O ∷ at_most 0 1 A ∷ at_most 0 1 B ∷ at_most 0 1 M ∷ []

two_edits_sites : sites_of (sketch_of two_edits) ≡ two_edits_templates ∷ []
two_edits_sites = refl

two_edits_count : length (templates two_edits 0) ≡ 75
two_edits_count = refl

-- four steps, then the loop: in a turn each copy that takes it steps three times
abbrev three_times : List Copy → Sketch
three_times v = steps v (steps v (steps v the_end))

two_edits_sketch : sketch_of two_edits ≡
    steps (O ∷ A ∷ B ∷ M ∷ []) (Draw (LoopSite all_copies two_edits_templates) (turns three_times turning))
two_edits_sketch = refl

-- how many goals and facts nodes have
abbrev asked_by : Result (List Due) Fault → Option (ℕ × ℕ)
asked_by (Err w) = None
asked_by (Ok ds) = Some (goals_in ds, facts_in ds)

-- 117 nodes
two_edits_nodes : size (plan_of two_edits (full_choice two_edits)) ≡ 117
two_edits_nodes = refl

-- it asks 75 goals before the loop and after each of 15 turns, and 6 at the end; a turn and the end have 75 kept
-- facts and 4 of guards
two_edits_asks : asked_by (obligations (task_of two_edits) (plan_of two_edits (full_choice two_edits))) ≡ Some (1206, 1264)
unfolding is_kept is_shallow
two_edits_asks = refl

two_edits_is_small : is_small two_edits ≡ true
unfolding is_kept is_shallow is_within
two_edits_is_small = refl

-- One edit in a loop: the names are i, n, a, out, and the shared code is `i = 0; while (i < n) { ?1; i = i + 1; }`.
-- The base and B have `out[i] = a[i];`, A and the candidate add 1 to the value.
abbrev pub one_edit : Parts
one_edit = record {
  names = [];
  declared = (0, Num) ∷ (1, Num) ∷ (2, Arr) ∷ (3, Arr) ∷ [];
  outputs = 3 ∷ [];
  assumed = None;
  shared = Assign 0 (syntax.Lit (pos 0)) (While below_n (Hole 1 (counts End)) End);
  fillings = by_copy
      ((1, writes 3 of_a) ∷ []) ((1, writes 3 of_a_and_1) ∷ []) ((1, writes 3 of_a) ∷ []) ((1, writes 3 of_a_and_1) ∷ []);
}

-- a turn has two steps of each copy, so there are 4 + 1 + 79 + 1 nodes
one_edit_sketch : sketch_of one_edit ≡
    steps (O ∷ A ∷ B ∷ M ∷ [])
    (Draw (LoopSite all_copies (of_number 0 ++ of_array 3 ++ at_most 0 1 O ∷ at_most 0 1 A ∷ at_most 0 1 B ∷ at_most 0 1 M ∷ []))
    (turns (λ (v : List Copy). steps v (steps v the_end)) turning))
one_edit_sketch = refl

one_edit_nodes : size (plan_of one_edit (full_choice one_edit)) ≡ 85
one_edit_nodes = refl

-- no template chosen: nothing is kept, and there are as many nodes
one_edit_none : size (plan_of one_edit []) ≡ 85
one_edit_none = refl

-- The loop is the filling: the names are i, n, and the shared code is `i = 0; ?1;`. All have
-- `while (i < n) { i = i + 1; }`, but A goes on to n + 1.
abbrev loop_to : Expression → Code
loop_to limit = While (Compare cmp.Lt (Var 0) limit) (counts End) End

abbrev to_n : Code
to_n = loop_to (Var 1)

abbrev pub unequal_loops : Parts
unequal_loops = record {
  names = [];
  declared = (0, Num) ∷ (1, Num) ∷ [];
  outputs = 0 ∷ [];
  assumed = None;
  shared = Assign 0 (syntax.Lit (pos 0)) (Hole 1 End);
  fillings = by_copy
      ((1, to_n) ∷ []) ((1, loop_to (Plus (Var 1) (syntax.Lit (pos 1)))) ∷ []) ((1, to_n) ∷ []) ((1, to_n) ∷ []);
}

-- the four loops run together, since they aren't the same
unequal_loops_sketch : sketch_of unequal_loops ≡
    steps (O ∷ A ∷ B ∷ M ∷ [])
    (Draw (LoopSite all_copies
    (of_number 0 ++ at_most 0 1 O ∷ Le (Slot A 0) (Add (Slot A 1) (Lit (pos 1))) ∷ at_most 0 1 B ∷ at_most 0 1 M ∷ []))
    (turns (λ (v : List Copy). steps v the_end) turning))
unequal_loops_sketch = refl

unequal_loops_nodes : size (plan_of unequal_loops (full_choice unequal_loops)) ≡ 53
unequal_loops_nodes = refl

-- One loop in all, but A and the candidate take a step before it: after these steps the loops are summarized,
-- and there is no site.
abbrev equal_loops : Parts
equal_loops = record {
  names = [];
  declared = (0, Num) ∷ (1, Num) ∷ [];
  outputs = 0 ∷ [];
  assumed = None;
  shared = Hole 1 End;
  fillings = by_copy ((1, to_n) ∷ []) ((1, counts to_n) ∷ []) ((1, to_n) ∷ []) ((1, counts to_n) ∷ []);
}

equal_loops_nodes : nodes_of (plan_of equal_loops []) ≡
    Step A ∷ Step M ∷ Abs O 1 ∷ Abs A 1 ∷ Abs B 1 ∷ Abs M 1 ∷ Ends ∷ []
equal_loops_nodes = refl

equal_loops_sites : site_count equal_loops ≡ 0
equal_loops_sites = refl
