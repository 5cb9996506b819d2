-- The first fault of names that are walked over in parts.
use Rattle.sm_syntax.proofs.Imports.{◌+◌, ◌-◌, ◌^◌, ◌<◌, ◌≤◌, lit<, min, Bool, if◌then◌else◌, arith, length, map, drop, get_or, append_assoc, ◌≡◌, ℕ, Option, Some, None, Err, List, [], ◌∷◌, ◌++◌, refl, ap, sym, ◌∙◌, nat_tests, option_or, Refusal, first_of_all, sort_refusal, over, TooMany, TooDeep, names_in, names_tested, names_used, Reports, Sorts, Code, End, Skip, Assign, Write, If, While, Hole, append, sequence, statement_of, Stmt}
use Rattle.sm_syntax.specs.declared.error.SyntaxError.{SyntaxError}
use Rattle.sm_syntax.specs.declared.error.SyntaxError.TheVariants as error
use Rattle.sm_syntax.specs.text.Conditions.{first_sort_fault, size_fault}
use Rattle.sm_syntax.specs.text.Sorts.{Sort, Num, Arr}
use Rattle.sm_syntax.proofs.Blocks.{statement_is, sequence-drop, sequence-drop-end}
use Rattle.sm_syntax.proofs.Statements.{statement_of-Skip, statement_of-Assign, statement_of-Store, statement_of-If, statement_of-While, statement_of-Hole}

-- a fault, and none after it
pub option_or-None : (a : Option Refusal) → option_or a None ≡ a
option_or-None None = refl
option_or-None (Some r) = refl

-- the first of three
pub option_or_assoc : (a b c : Option Refusal) → option_or (option_or a b) c ≡ option_or a (option_or b c)
option_or_assoc None b c = refl
option_or_assoc (Some r) b c = refl

-- no names have no fault
pub first_sort_fault-none : (sorts : Sorts) → first_sort_fault sorts [] ≡ None
unfolding first_sort_fault
first_sort_fault-none sorts = refl

-- one name's fault
pub first_sort_fault-one : (sorts : Sorts) (x : ℕ) (sort : Sort) → first_sort_fault sorts ((x, sort) ∷ []) ≡ sort_refusal (sorts x) sort x
unfolding first_sort_fault
first_sort_fault-one sorts x sort = option_or-None (sort_refusal (sorts x) sort x)

-- the fault of names after others is looked for where those have none
pub first_sort_fault-append : (sorts : Sorts) (xs ys : List (ℕ × Sort)) →
    first_sort_fault sorts (xs ++ ys) ≡ option_or (first_sort_fault sorts xs) (first_sort_fault sorts ys)
unfolding first_sort_fault
first_sort_fault-append sorts [] ys = refl
first_sort_fault-append sorts (x ∷ xs) ys =
    ap (option_or (sort_refusal (sorts x.0) x.1 x.0)) (first_sort_fault-append sorts xs ys) ∙
    sym (option_or_assoc (sort_refusal (sorts x.0) x.1 x.0) (first_sort_fault sorts xs) (first_sort_fault sorts ys))

-- an error is the first fault, whatever stands after it
pub reports_or : (e : SyntaxError) (a b : Option Refusal) → Reports (Err e) a → Reports (Err e) (option_or a b)
reports_or (error.UnknownName x) a b here named = ap (λ (o : Option Refusal). option_or o b) (here named)
reports_or (error.WrongSort x) a b here named = ap (λ (o : Option Refusal). option_or o b) (here named)
reports_or (error.DoubleName x) a b here named = ap (λ (o : Option Refusal). option_or o b) (here named)
reports_or error.TooDeep a b here named = ap (λ (o : Option Refusal). option_or o b) (here named)
reports_or error.TooMany a b here named = ap (λ (o : Option Refusal). option_or o b) (here named)
reports_or error.Memory a b here named = absurd (named refl)

-- the fault of one name before others
pub first_sort_fault-cons : (sorts : Sorts) (x : ℕ × Sort) (rest : List (ℕ × Sort)) →
    first_sort_fault sorts (x ∷ rest) ≡ option_or (first_sort_fault sorts (x ∷ [])) (first_sort_fault sorts rest)
first_sort_fault-cons sorts x rest = first_sort_fault-append sorts (x ∷ []) rest

-- the names of one code after another
pub names_used-append : (c r : Code) → names_used (append c r) ≡ names_used c ++ names_used r
names_used-append End r = refl
names_used-append (Skip k) r = names_used-append k r
names_used-append (Assign x e k) r =
    ap (λ (l : List (ℕ × Sort)). ((x, Num) ∷ names_in e) ++ l) (names_used-append k r) ∙ sym (append_assoc ((x, Num) ∷ names_in e) (names_used k) (names_used r))
names_used-append (Write a i e k) r =
    ap (λ (l : List (ℕ × Sort)). ((a, Arr) ∷ names_in i ++ names_in e) ++ l) (names_used-append k r) ∙
    sym (append_assoc ((a, Arr) ∷ names_in i ++ names_in e) (names_used k) (names_used r))
names_used-append (If b c d k) r =
    ap (λ (l : List (ℕ × Sort)). (names_tested b ++ names_used c ++ names_used d) ++ l) (names_used-append k r) ∙
    sym (append_assoc (names_tested b ++ names_used c ++ names_used d) (names_used k) (names_used r))
names_used-append (While b c k) r =
    ap (λ (l : List (ℕ × Sort)). (names_tested b ++ names_used c) ++ l) (names_used-append k r) ∙
    sym (append_assoc (names_tested b ++ names_used c) (names_used k) (names_used r))
names_used-append (Hole h k) r = names_used-append k r

-- the fault of a list's statements from i on, where s stands at i
pub first_sort_fault-drop : (sorts : Sorts) (l : List Stmt) (i : ℕ) (s : Stmt) → i < length l → s ≡ get_or l i s →
    first_sort_fault sorts (names_used (sequence (map statement_of (drop i l)) End)) ≡
    option_or (first_sort_fault sorts (names_used (statement_of s End))) (first_sort_fault sorts (names_used (sequence (map statement_of (drop (i + 1) l)) End)))
first_sort_fault-drop sorts l i s here item =
    let k = sequence (map statement_of (drop (i + 1) l)) End in
    ap (λ (c : Code). first_sort_fault sorts (names_used c)) (sequence-drop l i s End here ∙ statement_is (get_or l i s) k) ∙
    ap (λ (t : Stmt). first_sort_fault sorts (names_used (append (statement_of t End) k))) (sym item) ∙
    ap (first_sort_fault sorts) (names_used-append (statement_of s End) k) ∙
    first_sort_fault-append sorts (names_used (statement_of s End)) (names_used k)

-- the end of the list has no fault
pub first_sort_fault-drop-end : (sorts : Sorts) (l : List Stmt) (i : ℕ) → length l ≤ i →
    first_sort_fault sorts (names_used (sequence (map statement_of (drop i l)) End)) ≡ None
first_sort_fault-drop-end sorts l i past =
    ap (λ (c : Code). first_sort_fault sorts (names_used c)) (sequence-drop-end l i End past) ∙ first_sort_fault-none sorts

-- what a walk over names needs
pub ruleset walks = (first_sort_fault-none, first_sort_fault-cons, first_sort_fault-append, reports_or, option_or-None)

-- what a walk over the names of statements needs
pub ruleset statement_walks = (walks, first_sort_fault-drop-end, statement_of-Skip, statement_of-Assign, statement_of-Store, statement_of-If, statement_of-While, statement_of-Hole)

-- a limit below the greatest `u64` is passed by a number where it is passed by what a count that stops there gives
over-min : (limit n : ℕ) (r : Refusal) → limit < 2 ^ 64 - 1 → over limit (min n (2 ^ 64 - 1)) r ≡ over limit n r
over-min limit n r small = ap (λ (b : Bool). if b then Some r else None) (grind (arith, nat_tests))

-- the fault of counts that stop there
pub size_fault-min : (nodes depth : ℕ) → size_fault (min nodes (2 ^ 64 - 1)) (min depth (2 ^ 64 - 1)) ≡ size_fault nodes depth
unfolding size_fault
size_fault-min nodes depth =
    ap (λ (o : Option Refusal). first_of_all (o ∷ over 64 (min depth (2 ^ 64 - 1)) TooDeep ∷ [])) (over-min 20000 nodes TooMany (lit< tt)) ∙
    ap (λ (o : Option Refusal). first_of_all (over 20000 nodes TooMany ∷ o ∷ [])) (over-min 64 depth TooDeep (lit< tt))

-- what conditions one after the other need
pub ruleset conditions = (reports_or, option_or-None, size_fault-min)
