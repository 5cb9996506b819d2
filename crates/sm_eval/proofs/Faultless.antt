-- Names without a fault stand as they are declared.
use Rattle.sm_eval.proofs.Imports.{◌≡◌, ℕ, Some, None, List, [], ◌∷◌, ◌++◌, length, sym, ◌∙◌, sort_of, Sorts, IsWellSortedExpression, IsWellSortedCondition, IsWellSorted, Sort, Num, Arr, Expression, Lit, Var, Read, Neg, Plus, Minus, Times, Condition, Yes, No, Compare, Not, And, Or, Code, End, Skip, Assign, Write, If, While, Hole}
use Rattle.sm_syntax.specs.text.Conditions.{TooMany, first_of_all, first_sort_fault, double_name, first_output_fault, over, size_fault, program_fault, ill_assumed, code_nodes, code_depth, condition_nodes, condition_depth}
use Rattle.sm_syntax.specs.text.Uses.{names_in, names_tested, names_used}
use Rattle.sm_syntax.proofs.Uses.{first_sort_fault-one, first_sort_fault-append}
use Rattle.sm_syntax.proofs.Refusals.{neither_refuses, declared_sort}

-- names in two parts
parts : (sorts : Sorts) (xs ys : List (ℕ × Sort)) → first_sort_fault sorts (xs ++ ys) ≡ None
    → (first_sort_fault sorts xs ≡ None) × (first_sort_fault sorts ys ≡ None)
parts sorts xs ys none = neither_refuses (first_sort_fault sorts xs) (first_sort_fault sorts ys) (sym (first_sort_fault-append sorts xs ys) ∙ none)

-- one name
one : (sorts : Sorts) (x : ℕ) (sort : Sort) → first_sort_fault sorts ((x, sort) ∷ []) ≡ None → sorts x ≡ Some sort
one sorts x sort none = declared_sort (sorts x) sort x (sym (first_sort_fault-one sorts x sort) ∙ none)

-- the names of an expression
pub expression_sorted : (sorts : Sorts) (e : Expression) → first_sort_fault sorts (names_in e) ≡ None → IsWellSortedExpression sorts e
expression_sorted sorts (Lit z) none = tt
expression_sorted sorts (Var x) none = one sorts x Num none
expression_sorted sorts (Read a i) none =
    let both = parts sorts ((a, Arr) ∷ []) (names_in i) none in
    (one sorts a Arr both.0, expression_sorted sorts i both.1)
expression_sorted sorts (Neg e) none = expression_sorted sorts e none
expression_sorted sorts (Plus d e) none = let both = parts sorts (names_in d) (names_in e) none in
    (expression_sorted sorts d both.0, expression_sorted sorts e both.1)
expression_sorted sorts (Minus d e) none = let both = parts sorts (names_in d) (names_in e) none in
    (expression_sorted sorts d both.0, expression_sorted sorts e both.1)
expression_sorted sorts (Times d e) none = let both = parts sorts (names_in d) (names_in e) none in
    (expression_sorted sorts d both.0, expression_sorted sorts e both.1)

-- the names of a condition
pub condition_sorted : (sorts : Sorts) (b : Condition) → first_sort_fault sorts (names_tested b) ≡ None → IsWellSortedCondition sorts b
condition_sorted sorts Yes none = tt
condition_sorted sorts No none = tt
condition_sorted sorts (Compare op d e) none = let both = parts sorts (names_in d) (names_in e) none in
    (expression_sorted sorts d both.0, expression_sorted sorts e both.1)
condition_sorted sorts (Not b) none = condition_sorted sorts b none
condition_sorted sorts (And b c) none = let both = parts sorts (names_tested b) (names_tested c) none in
    (condition_sorted sorts b both.0, condition_sorted sorts c both.1)
condition_sorted sorts (Or b c) none = let both = parts sorts (names_tested b) (names_tested c) none in
    (condition_sorted sorts b both.0, condition_sorted sorts c both.1)

-- the names of code
pub code_sorted : (sorts : Sorts) (c : Code) → first_sort_fault sorts (names_used c) ≡ None → IsWellSorted sorts c
code_sorted sorts End none = tt
code_sorted sorts (Skip k) none = code_sorted sorts k none
code_sorted sorts (Assign x e k) none =
    let later = parts sorts ((x, Num) ∷ names_in e) (names_used k) none in
    let here = parts sorts ((x, Num) ∷ []) (names_in e) later.0 in
    (one sorts x Num here.0, expression_sorted sorts e here.1, code_sorted sorts k later.1)
code_sorted sorts (Write a i e k) none =
    let later = parts sorts ((a, Arr) ∷ names_in i ++ names_in e) (names_used k) none in
    let both = parts sorts ((a, Arr) ∷ names_in i) (names_in e) later.0 in
    let here = parts sorts ((a, Arr) ∷ []) (names_in i) both.0 in
    (one sorts a Arr here.0, expression_sorted sorts i here.1, expression_sorted sorts e both.1, code_sorted sorts k later.1)
code_sorted sorts (If b c d k) none =
    let later = parts sorts (names_tested b ++ names_used c ++ names_used d) (names_used k) none in
    let both = parts sorts (names_tested b ++ names_used c) (names_used d) later.0 in
    let here = parts sorts (names_tested b) (names_used c) both.0 in
    (condition_sorted sorts b here.0, code_sorted sorts c here.1, code_sorted sorts d both.1, code_sorted sorts k later.1)
code_sorted sorts (While b c k) none =
    let later = parts sorts (names_tested b ++ names_used c) (names_used k) none in
    let here = parts sorts (names_tested b) (names_used c) later.0 in
    (condition_sorted sorts b here.0, code_sorted sorts c here.1, code_sorted sorts k later.1)
code_sorted sorts (Hole h k) none = code_sorted sorts k none

-- the names of a well-formed program
pub program_sorted : (declared : List (ℕ × Sort)) (outputs : List ℕ) (c : Code) → program_fault declared outputs c ≡ None
    → IsWellSorted (sort_of declared) c
unfolding program_fault
program_sorted declared outputs c none =
    let names = first_sort_fault (sort_of declared) (names_used c) in
    let sizes = over 200 (length declared) TooMany ∷ size_fault (code_nodes c) (code_depth c) ∷ [] in
    let after = neither_refuses (double_name declared) (first_of_all (first_output_fault (sort_of declared) [] outputs ∷ names ∷ sizes)) none in
    let rest = neither_refuses (first_output_fault (sort_of declared) [] outputs) (first_of_all (names ∷ sizes)) after.1 in
    let here = neither_refuses names (first_of_all sizes) rest.1 in
    code_sorted (sort_of declared) c here.0

-- the names of a well-formed condition
pub assumed_sorted : (declared : List (ℕ × Sort)) (b : Condition) → ill_assumed declared (Some b) ≡ None
    → IsWellSortedCondition (sort_of declared) b
unfolding ill_assumed
assumed_sorted declared b none =
    let names = first_sort_fault (sort_of declared) (names_tested b) in
    let here = neither_refuses names (first_of_all (size_fault (condition_nodes b) (condition_depth b) ∷ [])) none in
    condition_sorted (sort_of declared) b here.0
