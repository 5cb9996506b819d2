-- What is left of programs, as slices of statements.
use Rattle.sm_plan.proofs.Imports.{◌≡◌, ℕ, zero, suc, ◌+◌, ◌≤◌, ◌<◌, ◌-◌, true, Some, None, List, [], ◌∷◌, ◌++◌, length, take, drop, drop-cons, get_or, slice_get, refl, sym, ap, ◌∙◌, arith, take_more, take_all, take-suc-set, Code, End, expression_of, condition_of, sequence, statement_layer, statement_of, Stmt, Stmt-F, statement_layer_is, Statement, put_before, first_of, by_first, is_long, front, rest_after, code_before, frames_before}
use Rattle.std.proofs.Math.ListN.{set, length-set}
use Rattle.sm_syntax.specs.declared.tree.Stmt.TheOpen as layer
use Rattle.sm_plan.specs.Statements.{Skip, Assign, Write, If, While, Hole}
use denote.Bor.{Bor}

-- the statement of a layer
abbrev statement_in : Stmt-F (Code → Code) Code → Statement
statement_in layer.Skip = Skip
statement_in (layer.Assign x e) = Assign x.0 (expression_of e)
statement_in (layer.Store a i e) = Write a.0 (expression_of i) (expression_of e)
statement_in (layer.If b c d) = If (condition_of b) c d
statement_in (layer.While b c) = While (condition_of b) c
statement_in (layer.Hole h) = Hole h

layer_stands : (l : Stmt-F (Code → Code) Code) (k : Code) → statement_layer l k ≡ put_before (statement_in l) k
layer_stands layer.Skip k = refl
layer_stands (layer.Assign x e) k = refl
layer_stands (layer.Store a i e) k = refl
layer_stands (layer.If b c d) k = refl
layer_stands (layer.While b c) k = refl
layer_stands (layer.Hole h) k = refl

-- each tree of a statement is one before the code that follows it
pub stands : (s : Stmt) → (t : Statement) × ((k : Code) → statement_of s k ≡ put_before t k)
stands s =
    let l = statement_layer_is s in
    (statement_in l.0, λ (k : Code). ap (λ (f : Code → Code). f k) l.1 ∙ layer_stands l.0 k)

-- what stands before code comes first
pub put_first : (t : Statement) (k : Code) → first_of (put_before t k) ≡ Some (t, k)
put_first Skip k = refl
put_first (Assign x e) k = refl
put_first (Write a i e) k = refl
put_first (If b c d) k = refl
put_first (While b c) k = refl
put_first (Hole h) k = refl

-- a function by the first statement, where a tree stands first
by_stand : {T : Type 0} (none : T) (f : Statement → Code → T) (s : Stmt) (k : Code) →
    by_first none f (first_of (statement_of s k)) ≡ f (stands s).0 k
by_stand none f s k = ap (λ (c : Code). by_first none f (first_of c)) ((stands s).1 k) ∙ ap (by_first none f) (put_first (stands s).0 k)

long_one : (n : ℕ) (s : Stmt) (k : Code) → is_long (suc n) (statement_of s k) ≡ is_long n k
long_one n s k = by_stand _ _ s k

front_one : (n : ℕ) (s : Stmt) (k : Code) → front (suc n) (statement_of s k) ≡ statement_of s (front n k)
front_one n s k = by_stand _ _ s k ∙ sym ((stands s).1 (front n k))

after_one : (n : ℕ) (s : Stmt) (k : Code) → rest_after (suc n) (statement_of s k) ≡ rest_after n k
after_one n s k = by_stand _ _ s k

-- the code after one statement
pub after_statement : (s : Stmt) (k : Code) → rest_after 1 (statement_of s k) ≡ k
after_statement s k = after_one 0 s k

-- a slice with at least n statements has them all, and one with fewer leaves the others to what follows
pub long_within : (ss : List Stmt) (n : ℕ) (k : Code) → n ≤ length ss → is_long n (code_before ss k) ≡ true
long_within ss zero k h = refl
long_within [] (suc n) k h = absurd (omega arith)
long_within (s ∷ ss) (suc n) k h = long_one n s (code_before ss k) ∙ long_within ss n k (omega arith)

pub long_past : (ss : List Stmt) (n m : ℕ) (k : Code) → n ≡ length ss + m → is_long n (code_before ss k) ≡ is_long m k
long_past [] n m k e = ap (λ (i : ℕ). is_long i k) (omega arith)
long_past (s ∷ ss) zero m k e = absurd (omega arith)
long_past (s ∷ ss) (suc n) m k e = long_one n s (code_before ss k) ∙ long_past ss n m k (omega arith)

pub front_within : (ss : List Stmt) (n : ℕ) (k : Code) → n ≤ length ss → front n (code_before ss k) ≡ code_before (take n ss) End
front_within ss zero k h = refl
front_within [] (suc n) k h = absurd (omega arith)
front_within (s ∷ ss) (suc n) k h = front_one n s (code_before ss k) ∙ ap (statement_of s) (front_within ss n k (omega arith))

pub front_past : (ss : List Stmt) (n m : ℕ) (k : Code) → n ≡ length ss + m → front n (code_before ss k) ≡ code_before ss (front m k)
front_past [] n m k e = ap (λ (i : ℕ). front i k) (omega arith)
front_past (s ∷ ss) zero m k e = absurd (omega arith)
front_past (s ∷ ss) (suc n) m k e = front_one n s (code_before ss k) ∙ ap (statement_of s) (front_past ss n m k (omega arith))

pub after_within : (ss : List Stmt) (n : ℕ) (k : Code) → n ≤ length ss → rest_after n (code_before ss k) ≡ code_before (drop n ss) k
after_within ss zero k h = refl
after_within [] (suc n) k h = absurd (omega arith)
after_within (s ∷ ss) (suc n) k h = after_one n s (code_before ss k) ∙ after_within ss n k (omega arith)

pub after_past : (ss : List Stmt) (n m : ℕ) (k : Code) → n ≡ length ss + m → rest_after n (code_before ss k) ≡ rest_after m k
after_past [] n m k e = ap (λ (i : ℕ). rest_after i k) (omega arith)
after_past (s ∷ ss) zero m k e = absurd (omega arith)
after_past (s ∷ ss) (suc n) m k e = after_one n s (code_before ss k) ∙ after_past ss n m k (omega arith)

-- slices on slices
pub frames_append : (fs gs : List (Bor (List Stmt))) (k : Code) → frames_before (fs ++ gs) k ≡ frames_before gs (frames_before fs k)
frames_append [] gs k = refl
frames_append (f ∷ fs) gs k = frames_append fs gs (code_before f.now k)

-- the slices up to one, and those from one on
pub take_frame : (fs : List (Bor (List Stmt))) (p : ℕ) (f : Bor (List Stmt)) (k : Code) → 0 < p → p ≤ length fs → f ≡ get_or fs (p - 1) f
    → frames_before (take p fs) k ≡ code_before f.now (frames_before (take (p - 1) fs) k)
take_frame fs p f k some inside here =
    let next : p ≡ (p - 1) + 1 = omega arith in
    ap (λ (n : ℕ). frames_before (take n fs) k) next
    ∙ ap (λ (l : List (Bor (List Stmt))). frames_before l k) (take_more fs (p - 1) f (omega arith))
    ∙ frames_append (take (p - 1) fs) (get_or fs (p - 1) f ∷ []) k
    ∙ ap (λ (g : Bor (List Stmt)). code_before g.now (frames_before (take (p - 1) fs) k)) (sym here)

pub drop_frame : (fs : List (Bor (List Stmt))) (p : ℕ) (f : Bor (List Stmt)) (k : Code) → 0 < p → p ≤ length fs → f ≡ get_or fs (p - 1) f
    → frames_before (drop (p - 1) fs) k ≡ frames_before (drop p fs) (code_before f.now k)
drop_frame fs p f k some inside here =
    let next : suc (p - 1) ≡ p = omega arith in
    ap (λ (l : List (Bor (List Stmt))). frames_before l k) (drop-cons fs (p - 1) f (omega arith))
    ∙ ap (λ (n : ℕ). frames_before (drop n fs) (code_before (get_or fs (p - 1) f).now k)) next
    ∙ ap (λ (g : Bor (List Stmt)). frames_before (drop p fs) (code_before g.now k)) (sym here)

-- the first statement of a slice
pub head_is : (ss : List Stmt) (s : Stmt) (k : Code) → Some s ≡ slice_get ss 0 →
    code_before ss k ≡ statement_of s (code_before (drop 1 ss) k)
head_is [] s k e = absurd cc
head_is (t ∷ ss) s k e = let same : t ≡ s = cc in ap (λ (u : Stmt). statement_of u (code_before ss k)) same

pub no_head : (ss : List Stmt) (k : Code) → None ≡ slice_get ss 0 → code_before ss k ≡ k
no_head [] k e = refl
no_head (t ∷ ss) k e = absurd cc

-- code that begins with a statement
pub begins : (c : Code) (s : Stmt) (k : Code) → c ≡ statement_of s k → c ≡ statement_of s (rest_after 1 c)
begins c s k e = e ∙ ap (statement_of s) (sym (after_statement s k) ∙ ap (rest_after 1) (sym e))

-- statements one after the other
pub sequence_append : (a b : List (Code → Code)) (k : Code) → sequence (a ++ b) k ≡ sequence a (sequence b k)
sequence_append [] b k = refl
sequence_append (f ∷ a) b k = ap f (sequence_append a b k)

-- one slice more
pub frames_push : (fs : List (Bor (List Stmt))) (f : Bor (List Stmt)) (k : Code) →
    frames_before (fs ++ f ∷ []) k ≡ code_before f.now (frames_before fs k)
frames_push fs f k = frames_append fs (f ∷ []) k

-- the next slice
pub next_frame : (fs : List (Bor (List Stmt))) (i : ℕ) (f : Bor (List Stmt)) (k : Code) → i < length fs → f ≡ get_or fs i f
    → frames_before (take (i + 1) fs) k ≡ code_before f.now (frames_before (take i fs) k)
next_frame fs i f k inside here =
    ap (λ (l : List (Bor (List Stmt))). frames_before l k) (take_more fs i f inside)
    ∙ frames_push (take i fs) (get_or fs i f) k
    ∙ ap (λ (g : Bor (List Stmt)). code_before g.now (frames_before (take i fs) k)) (sym here)

-- another last slice
pub last_set : (fs : List (Bor (List Stmt))) (i : ℕ) (f : Bor (List Stmt)) (k : Code) → i + 1 ≡ length fs
    → frames_before (set fs i f) k ≡ code_before f.now (frames_before (take i fs) k)
last_set fs i f k last =
    let long : length (set fs i f) ≡ suc i = length-set fs i f ∙ omega arith in
    ap (λ (l : List (Bor (List Stmt))). frames_before l k)
    (sym (take_all (suc i) (set fs i f) (omega arith)) ∙ take-suc-set fs i f (omega arith))
    ∙ frames_push (take i fs) f k

-- all slices but the last
pub whole_frames : (fs : List (Bor (List Stmt))) (i : ℕ) (f : Bor (List Stmt)) (k : Code) → i + 1 ≡ length fs → f ≡ get_or fs i f
    → frames_before fs k ≡ code_before f.now (frames_before (take i fs) k)
whole_frames fs i f k last here =
    ap (λ (l : List (Bor (List Stmt))). frames_before l k) (sym (take_all (i + 1) fs (omega arith)))
    ∙ next_frame fs i f k (omega arith) here
