-- The names that well-sorted code needs and assigns are declared.
use Rattle.sm_deps.proofs.Imports.{◌≡◌, ℕ, Bool, true, not, ◌==◌, ◌||◌, ◌&&◌, Some, is_some, length, ap, ◌∙◌, ⊎_elim, eqb-true, or_cases, and_parts, assigns, is_in, Sorts, IsWellSortedExpression, IsWellSortedCondition, IsWellSorted, Sort, Num, Arr, Expression, Lit, Var, Read, Neg, Plus, Minus, Times, Condition, Yes, No, Compare, Not, Code, End, Skip, Write, If, While, Hole, mentions, tests, code_names, needed, inputs, Below}
use Rattle.sm_syntax.specs.claim.Syntax.{And, Or, Assign}
use Rattle.sm_deps.proofs.InputsExact.{inputs_listed}
use Rattle.sm_deps.proofs.GrownLemmas.{grown_within}

-- whether a name is declared
abbrev declared : Sorts → ℕ → Bool
declared sorts x = is_some (sorts x)

-- a name that is another one, which is declared
declared_as : (sorts : Sorts) (sort : Sort) (x y : ℕ) → sorts y ≡ Some sort → (x == y) ≡ true → declared sorts x ≡ true
declared_as sorts sort x y known same = ap (declared sorts) (eqb-true x y same) ∙ ap is_some known

-- a name in one of two parts
in_parts : (p q : Bool) (P : Type 0) → (p ≡ true → P) → (q ≡ true → P) → (p || q) ≡ true → P
in_parts p q P first second h = ⊎_elim first second (or_cases p q h)

-- the names of a well-sorted expression
mentions_declared : (sorts : Sorts) (e : Expression) → IsWellSortedExpression sorts e → Below (mentions e) (declared sorts)
mentions_declared sorts (Lit z) good x m = absurd cc
mentions_declared sorts (Var y) good x m = declared_as sorts Num x y good m
mentions_declared sorts (Read a i) good x m =
    in_parts (x == a) (mentions i x) (declared sorts x ≡ true) (declared_as sorts Arr x a good.0) (mentions_declared sorts i good.1 x) m
mentions_declared sorts (Neg e) good x m = mentions_declared sorts e good x m
mentions_declared sorts (Plus d e) good x m =
    in_parts (mentions d x) (mentions e x) (declared sorts x ≡ true) (mentions_declared sorts d good.0 x)
    (mentions_declared sorts e good.1 x) m
mentions_declared sorts (Minus d e) good x m =
    in_parts (mentions d x) (mentions e x) (declared sorts x ≡ true) (mentions_declared sorts d good.0 x)
    (mentions_declared sorts e good.1 x) m
mentions_declared sorts (Times d e) good x m =
    in_parts (mentions d x) (mentions e x) (declared sorts x ≡ true) (mentions_declared sorts d good.0 x)
    (mentions_declared sorts e good.1 x) m

-- those of a well-sorted condition
tests_declared : (sorts : Sorts) (b : Condition) → IsWellSortedCondition sorts b → Below (tests b) (declared sorts)
tests_declared sorts Yes good x m = absurd cc
tests_declared sorts No good x m = absurd cc
tests_declared sorts (Compare op d e) good x m =
    in_parts (mentions d x) (mentions e x) (declared sorts x ≡ true) (mentions_declared sorts d good.0 x)
    (mentions_declared sorts e good.1 x) m
tests_declared sorts (Not b) good x m = tests_declared sorts b good x m
tests_declared sorts (And b c) good x m =
    in_parts (tests b x) (tests c x) (declared sorts x ≡ true) (tests_declared sorts b good.0 x) (tests_declared sorts c good.1 x) m
tests_declared sorts (Or b c) good x m =
    in_parts (tests b x) (tests c x) (declared sorts x ≡ true) (tests_declared sorts b good.0 x) (tests_declared sorts c good.1 x) m

-- what well-sorted code needs, where declared names are wanted
needed_declared : (sorts : Sorts) (c : Code) (wanted : ℕ → Bool) → IsWellSorted sorts c → Below wanted (declared sorts)
    → Below (needed c wanted) (declared sorts)
needed_declared sorts End wanted good h x m = h x m
needed_declared sorts (Skip k) wanted good h x m = needed_declared sorts k wanted good h x m
needed_declared sorts (Assign y e k) wanted good h x m =
    in_parts (needed k wanted x && not (x == y)) (needed k wanted y && mentions e x) (declared sorts x ≡ true)
    (λ (kept : (needed k wanted x && not (x == y)) ≡ true).
    needed_declared sorts k wanted good.2 h x (and_parts (needed k wanted x) (not (x == y)) kept).0)
    (λ (new : (needed k wanted y && mentions e x) ≡ true).
    mentions_declared sorts e good.1 x (and_parts (needed k wanted y) (mentions e x) new).1)
    m
needed_declared sorts (Write a i e k) wanted good h x m =
    in_parts (needed k wanted x) (needed k wanted a && (mentions i x || mentions e x)) (declared sorts x ≡ true)
    (needed_declared sorts k wanted good.3 h x)
    (λ (new : (needed k wanted a && (mentions i x || mentions e x)) ≡ true).
    in_parts (mentions i x) (mentions e x) (declared sorts x ≡ true) (mentions_declared sorts i good.1 x)
    (mentions_declared sorts e good.2 x)
    (and_parts (needed k wanted a) (mentions i x || mentions e x) new).1)
    m
needed_declared sorts (If b c d k) wanted good h x m =
    let after : Below (needed k wanted) (declared sorts) = needed_declared sorts k wanted good.3 h in
    in_parts (needed c (needed k wanted) x) (needed d (needed k wanted) x || tests b x) (declared sorts x ≡ true)
    (needed_declared sorts c (needed k wanted) good.1 after x)
    (in_parts (needed d (needed k wanted) x) (tests b x) (declared sorts x ≡ true)
    (needed_declared sorts d (needed k wanted) good.2 after x) (tests_declared sorts b good.0 x))
    m
needed_declared sorts (While b c k) wanted good h x m =
    grown_within (length (code_names c)) (needed c) (λ (y : ℕ). needed k wanted y || tests b y) (declared sorts)
    (λ (part : ℕ → Bool) (below : Below part (declared sorts)). needed_declared sorts c part good.1 below)
    (λ (y : ℕ). in_parts (needed k wanted y) (tests b y) (declared sorts y ≡ true) (needed_declared sorts k wanted good.2 h y)
    (tests_declared sorts b good.0 y))
    x m
needed_declared sorts (Hole h' k) wanted good h x m = needed_declared sorts k wanted good h x m

-- the inputs of well-sorted code for a declared name
pub inputs_declared : (sorts : Sorts) (c : Code) (w x : ℕ) → IsWellSorted sorts c → is_some (sorts w) ≡ true → is_in (inputs c w) x ≡ true
    → is_some (sorts x) ≡ true
inputs_declared sorts c w x good known there =
    needed_declared sorts c (λ (y : ℕ). y == w) good (λ (y : ℕ) (same : (y == w) ≡ true). ap (declared sorts) (eqb-true y w same) ∙ known) x
    ((inputs_listed c w x).0 there)

-- what well-sorted code assigns
pub assigned_declared : (sorts : Sorts) (c : Code) (x : ℕ) → IsWellSorted sorts c → assigns c x ≡ true → is_some (sorts x) ≡ true
assigned_declared sorts End x good m = absurd cc
assigned_declared sorts (Skip k) x good m = assigned_declared sorts k x good m
assigned_declared sorts (Assign y e k) x good m =
    in_parts (x == y) (assigns k x) (declared sorts x ≡ true) (declared_as sorts Num x y good.0) (assigned_declared sorts k x good.2) m
assigned_declared sorts (Write a i e k) x good m =
    in_parts (x == a) (assigns k x) (declared sorts x ≡ true) (declared_as sorts Arr x a good.0) (assigned_declared sorts k x good.3) m
assigned_declared sorts (If b c d k) x good m =
    in_parts (assigns c x || assigns d x) (assigns k x) (declared sorts x ≡ true)
    (in_parts (assigns c x) (assigns d x) (declared sorts x ≡ true) (assigned_declared sorts c x good.1)
    (assigned_declared sorts d x good.2))
    (assigned_declared sorts k x good.3)
    m
assigned_declared sorts (While b c k) x good m =
    in_parts (assigns c x) (assigns k x) (declared sorts x ≡ true) (assigned_declared sorts c x good.1)
    (assigned_declared sorts k x good.2) m
assigned_declared sorts (Hole h k) x good m = assigned_declared sorts k x good m

-- both
pub ruleset names_declared = (inputs_declared, assigned_declared)
