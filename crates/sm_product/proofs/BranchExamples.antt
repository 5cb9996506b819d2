-- Tasks with an if at a hole or around it, each with its product and its templates, and what is read off fillings
-- and guards, worked by hand.
use Rattle.sm_product.proofs.Imports.{◌≡◌, ℕ, zero, suc, pos, refl, None, List, [], ◌∷◌, ◌++◌, map, if◌then◌else◌, Num, Expression, Condition, Code, End, Skip, Assign, Write, If, While, Hole, Compare, Var, Plus, Minus, Times, Neg, Copy, O, A, B, M, filling, Parts, by_copy, Slot, Add, Assertion, Eq, Ne, Le, Or, copies, has, Fork, size, own_statements, all_copies, only_in, guard_templates, Draw, Plain, BlockSite, Over, More, sketch_of, plan_of, full_choice}
use Rattle.sm_syntax.specs.declared.tree.Cmp.TheVariants as cmp
use Rattle.sm_syntax.specs.claim.Syntax as syntax
use Rattle.sm_term.specs.Terms.{Lit}
use Rattle.sm_template.specs.Literals.{literals_of}
use Rattle.sm_sketch.specs.Sketches.{Sketch}
use Rattle.sm_product.proofs.LoopExamples.{steps, the_end, same, one_more, as_before, of_number}

-- a literal
abbrev lit : ℕ → Expression
lit n = syntax.Lit (pos n)

-- a task whose names are numbers
abbrev with_numbers : List ℕ → Code → (Copy → Code) → Parts
with_numbers names shared filling = record {
  names = [];
  declared = map (λ (x : ℕ). (x, Num)) names;
  outputs = [];
  assumed = None;
  shared = shared;
  fillings = λ (c : Copy). (1, filling c) ∷ [];
}

-- A hole in an if: the names are x, y, and the shared code is `if (x < 1) { ?1; } else { skip; }`. The base and B
-- have `y = x;`, A and the candidate `y = x + 1;`.
abbrev pub hole_in_if : Parts
hole_in_if =
    let edited : Code = Assign 1 (Plus (Var 0) (lit 1)) End in
    with_numbers (0 ∷ 1 ∷ []) (If (Compare cmp.Lt (Var 0) (lit 1)) (Hole 1 End) (Skip End) End)
    (by_copy (Assign 1 (Var 0) End) edited (Assign 1 (Var 0) End) edited)

-- each copy forks; those that took the first block do their filling, and then the others skip
abbrev forks : List Copy → List Copy → List Copy → Sketch
forks [] taken others = steps taken (steps others the_end)
forks (c ∷ rest) taken others =
    Draw (Plain (Fork c)) (More (forks rest (taken ++ c ∷ []) others) (More (forks rest taken (others ++ c ∷ [])) Over))

hole_in_if_sketch : sketch_of hole_in_if ≡
    Draw (BlockSite (λ (c : Copy). if has all_copies c then 1 else 0) (of_number 1))
    (More (forks (O ∷ A ∷ B ∷ M ∷ []) [] []) (More the_end Over))
hole_in_if_sketch = refl

-- a block, 15 forks, 16 paths of 4 steps and an end, and the end
hole_in_if_nodes : size (plan_of hole_in_if (full_choice hole_in_if)) ≡ 97
hole_in_if_nodes = refl

-- Many forks: the names are x, y, z, and the shared code is one hole. A has `if (x > 0) { y = 1; } else { y = 2; }`
-- n times, B has the same with `x > 1`, and the base and the candidate are empty.
abbrev ifs : ℕ → ℕ → Code
ifs limit zero = End
ifs limit (suc n) = If (Compare cmp.Gt (Var 0) (lit limit)) (Assign 1 (lit 1) End) (Assign 1 (lit 2) End) (ifs limit n)

abbrev many_forks : ℕ → Parts
many_forks n = with_numbers (0 ∷ 1 ∷ 2 ∷ []) (Hole 1 End) (by_copy End (ifs 0 n) (ifs 1 n) End)

-- a fork of a copy with a step on each path
abbrev fork_and_step : Copy → Sketch → Sketch
fork_and_step c next = Draw (Plain (Fork c)) (More (steps (c ∷ []) next) (More (steps (c ∷ []) next) Over))

-- two copies differ by 2
abbrev two_more : Copy → Copy → Assertion
two_more c d = Eq Num (Slot d 1) (Add (Slot c 1) (Lit (pos 2)))

abbrev one_more_y : Copy → Copy → Assertion
one_more_y = one_more 1

-- y alone is written, and the literals are 1 and 2
abbrev many_forks_templates : List Assertion
many_forks_templates =
    same 1 O A ∷ same 1 O B ∷ same 1 O M ∷ same 1 A B ∷ same 1 A M ∷ same 1 B M
    ∷ Or (same 1 O A) (same 1 M A) ∷ Or (same 1 O B) (same 1 M B)
    ∷ Or (Ne Num (Slot O 1) (Slot A 1)) (Or (Ne Num (Slot A 1) (Slot B 1)) (same 1 M O))
    ∷ as_before 1 O ∷ as_before 1 A ∷ as_before 1 B ∷ as_before 1 M
    ∷ one_more_y O A ∷ one_more_y A O ∷ two_more O A ∷ two_more A O
    ∷ one_more_y O B ∷ one_more_y B O ∷ two_more O B ∷ two_more B O
    ∷ one_more_y O M ∷ one_more_y M O ∷ two_more O M ∷ two_more M O
    ∷ one_more_y A B ∷ one_more_y B A ∷ two_more A B ∷ two_more B A
    ∷ one_more_y A M ∷ one_more_y M A ∷ two_more A M ∷ two_more M A
    ∷ one_more_y B M ∷ one_more_y M B ∷ two_more B M ∷ two_more M B
    ∷ []

-- the code for the first hole
abbrev first_filling : Parts → Copy → Code
first_filling t = only_in all_copies (λ (c : Copy). filling (t.fillings c) 1)

-- the block is of A's and B's statements; A, the least copy that begins with an if, forks before B
many_forks_sketch : sketch_of (many_forks 1) ≡
    Draw (BlockSite (λ (c : Copy). own_statements (first_filling (many_forks 1) c)) many_forks_templates)
    (More (fork_and_step A (fork_and_step B the_end)) (More the_end Over))
many_forks_sketch = refl

many_forks_counts : map (λ (c : Copy). own_statements (first_filling (many_forks 1) c)) copies ≡
    0 ∷ 1 ∷ 1 ∷ 0 ∷ []
many_forks_counts = refl

many_forks_nodes : size (plan_of (many_forks 1) (full_choice (many_forks 1))) ≡ 15
many_forks_nodes = refl

more_forks_nodes : size (plan_of (many_forks 2) (full_choice (many_forks 2))) ≡ 63
more_forks_nodes = refl

-- Literals: an index stands before its value, a repeat and 0 don't count, those of blocks and of guards do, and 13
-- would be the ninth.
abbrev with_literals : Parts
with_literals = record {
  names = [];
  declared = [];
  outputs = [];
  assumed = None;
  shared = Assign 0 (lit 99) (Hole 1 (Hole 2 End));
  fillings = by_copy
      ((1, Write 1 (lit 3) (Plus (Var 0) (lit 2)) End) ∷ (2, End) ∷ [])
      ((2, Write 1 (lit 3) (lit 0) End)
      ∷ (1, If (Compare cmp.Eq (Var 0) (lit 9)) (Assign 0 (lit 1) End) (Assign 0 (lit 4) End) End)
      ∷ [])
      ((1, While (Compare cmp.Lt (lit 10) (Var 0)) (Assign 0 (Times (lit 11) (Neg (lit 12))) End) End) ∷ (2, End) ∷ [])
      ((1, Assign 0 (Minus (lit 13) (lit 2)) End) ∷ (2, End) ∷ []);
}

literals_found : literals_of with_literals ≡
    pos 3 ∷ pos 2 ∷ pos 9 ∷ pos 1 ∷ pos 4 ∷ pos 10 ∷ pos 11 ∷ pos 12 ∷ []
literals_found = refl

-- `[x <= y && ! y > 1] || [x >= y || x == 5]`, of A
abbrev guard : Condition
guard =
    syntax.Or
    (syntax.And (Compare cmp.Le (Var 0) (Var 1)) (syntax.Not (Compare cmp.Gt (Var 1) (lit 1))))
    (syntax.Or (Compare cmp.Ge (Var 0) (Var 1)) (Compare cmp.Eq (Var 0) (lit 5)))

guard_found : guard_templates guard A ≡
    Le (Slot A 0) (Add (Slot A 1) (Lit (pos 1)))
    ∷ Le (Lit (pos 1)) (Slot A 1)
    ∷ Le (Slot A 1) (Add (Slot A 0) (Lit (pos 1)))
    ∷ []
guard_found = refl
