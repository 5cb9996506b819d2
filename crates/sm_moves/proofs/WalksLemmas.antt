-- Walks over statements: what a test says of code where it passes one of two parts, and the shapes of statements.
use Rattle.sm_moves.proofs.Imports.{◌≡◌, ◌≤◌, ◌<◌, ◌+◌, ℕ, zero, suc, Bool, true, false, ◌||◌, List, [], ◌∷◌, length, drop, get_or, refl, sym, ap, ◌∙◌, arith, Fillings, fill, Code, End, Skip, Assign, Write, If, While, Hole, append, statement_of, code_of, Stmt, Block, block_is, statement_is, sequence-drop, sequence-drop-end, statement_of-Skip, statement_of-Assign, statement_of-Store, statement_of-If, statement_of-While, statement_of-Hole, code_before, has_hole, has_fork, own_statements, statements_in, or_false, or_assoc}
use Rattle.sm_syntax.specs.declared.tree.Expr.{Expr}
use Rattle.sm_syntax.specs.declared.tree.Name.{Name}
use Rattle.sm_syntax.specs.declared.tree.Stmt.TheVariants as tree
use Rattle.sm_syntax.specs.declared.tree.Cond.{Cond}
use Rattle.sm_moves.proofs.CodesLemmas.{statements_append}

-- code after code has a hole where one of the two has
pub hole-append : (c k : Code) → has_hole (append c k) ≡ (has_hole c || has_hole k)
hole-append End k = refl
hole-append (Skip r) k = hole-append r k
hole-append (Assign x e r) k = hole-append r k
hole-append (Write a i e r) k = hole-append r k
hole-append (If b c d r) k =
    ap (λ (x : Bool). has_hole c || (has_hole d || x)) (hole-append r k)
    ∙ ap (λ (x : Bool). has_hole c || x) (sym (or_assoc (has_hole d) (has_hole r) (has_hole k)))
    ∙ sym (or_assoc (has_hole c) (has_hole d || has_hole r) (has_hole k))
hole-append (While b c r) k =
    ap (λ (x : Bool). has_hole c || x) (hole-append r k) ∙ sym (or_assoc (has_hole c) (has_hole r) (has_hole k))
hole-append (Hole h r) k = refl

-- code after code has an if among its own statements where one of the two has
pub fork-append : (c k : Code) → has_fork (append c k) ≡ (has_fork c || has_fork k)
fork-append End k = refl
fork-append (Skip r) k = fork-append r k
fork-append (Assign x e r) k = fork-append r k
fork-append (Write a i e r) k = fork-append r k
fork-append (If b c d r) k = refl
fork-append (While b c r) k = fork-append r k
fork-append (Hole h r) k = fork-append r k

-- a walk over a block that stops at the first statement that passes
module _ (f : Code → Bool) (split : (c k : Code) → f (append c k) ≡ (f c || f k)) (none : f End ≡ false)
    (l : List Stmt) (i : ℕ) (all : Bool) (so_far : f (code_before (drop i l) End) ≡ all) where
  one_more : (s : Stmt) → i < length l → s ≡ get_or l i s →
      f (code_before (drop i l) End) ≡ (f (statement_of s End) || f (code_before (drop (i + 1) l) End))
  one_more s inside item =
      let rest = code_before (drop (i + 1) l) End in
      ap f (sequence-drop l i s End inside) ∙ ap (λ (x : Stmt). f (statement_of x rest)) (sym item) ∙ ap f (statement_is s rest)
      ∙ split (statement_of s End) rest

  pub found_here : (s : Stmt) → i < length l → s ≡ get_or l i s → f (statement_of s End) ≡ true → true ≡ all
  found_here s inside item hit =
      sym (one_more s inside item ∙ ap (λ (x : Bool). x || f (code_before (drop (i + 1) l) End)) hit) ∙ so_far

  pub not_here : (s : Stmt) → i < length l → s ≡ get_or l i s → f (statement_of s End) ≡ false →
      f (code_before (drop (i + 1) l) End) ≡ all
  not_here s inside item miss =
      sym (one_more s inside item ∙ ap (λ (x : Bool). x || f (code_before (drop (i + 1) l) End)) miss) ∙ so_far

  pub nowhere : length l ≤ i → false ≡ all
  nowhere past = sym none ∙ sym (ap f (sequence-drop-end l i End past)) ∙ so_far

-- a statement has no more statements than those that it stands among
pub statement_within : (l : List Stmt) (i : ℕ) (s : Stmt) → i < length l → s ≡ get_or l i s →
    statements_in (statement_of s End) ≤ statements_in (code_before l End)
statement_within [] i s h e = absurd (omega (arith, h))
statement_within (x ∷ l) zero s h e =
    let rest = code_before l End in
    let whole = ap statements_in (statement_is x rest) ∙ statements_append (statement_of x End) rest in
    let here = ap (λ (y : Stmt). statements_in (statement_of y End)) e in
    omega (arith, whole, here)
statement_within (x ∷ l) (suc i) s h e =
    let rest = code_before l End in
    let whole = ap statements_in (statement_is x rest) ∙ statements_append (statement_of x End) rest in
    let below = statement_within l i s (omega (arith, h)) e in
    omega (arith, whole, below)

-- what holds of a block's statements is said of the block
pub whole_block : (f : Code → Bool) (l : List Stmt) (b : Block) → l ≡ b.list.items → f (code_before l End) ≡ f (code_of b)
whole_block f l b e = ap (λ (m : List Stmt). f (code_before m End)) e ∙ ap f (sym (block_is b))

-- how many statements each kind is filled with
pub own-Skip : (fs : Fillings) → own_statements (fill fs (statement_of tree.Skip End)) ≡ 1
own-Skip fs = ap (λ (c : Code). own_statements (fill fs c)) (statement_of-Skip End)

pub own-Assign : (fs : Fillings) (x : Name) (e : Expr) → own_statements (fill fs (statement_of (tree.Assign x e) End)) ≡ 1
own-Assign fs x e = ap (λ (c : Code). own_statements (fill fs c)) (statement_of-Assign x e End)

pub own-Store : (fs : Fillings) (a : Name) (i e : Expr) → own_statements (fill fs (statement_of (tree.Store a i e) End)) ≡ 1
own-Store fs a i e = ap (λ (c : Code). own_statements (fill fs c)) (statement_of-Store a i e End)

pub own-If : (fs : Fillings) (b : Cond) (c d : Block) → own_statements (fill fs (statement_of (tree.If b c d) End)) ≡ 1
own-If fs b c d = ap (λ (k : Code). own_statements (fill fs k)) (statement_of-If b c d End)

pub own-While : (fs : Fillings) (b : Cond) (c : Block) → own_statements (fill fs (statement_of (tree.While b c) End)) ≡ 1
own-While fs b c = ap (λ (k : Code). own_statements (fill fs k)) (statement_of-While b c End)

pub ruleset own_counts = (own-Skip, own-Assign, own-Store, own-If, own-While)

-- whether each kind has a hole
pub hole-Skip : has_hole (statement_of tree.Skip End) ≡ false
hole-Skip = ap has_hole (statement_of-Skip End)

pub hole-Assign : (x : Name) (e : Expr) → has_hole (statement_of (tree.Assign x e) End) ≡ false
hole-Assign x e = ap has_hole (statement_of-Assign x e End)

pub hole-Store : (a : Name) (i e : Expr) → has_hole (statement_of (tree.Store a i e) End) ≡ false
hole-Store a i e = ap has_hole (statement_of-Store a i e End)

pub hole-If : (b : Cond) (c d : Block) → has_hole (statement_of (tree.If b c d) End) ≡ (has_hole (code_of c) || has_hole (code_of d))
hole-If b c d =
    ap has_hole (statement_of-If b c d End) ∙ ap (λ (x : Bool). has_hole (code_of c) || x) (or_false (has_hole (code_of d)))

pub hole-While : (b : Cond) (c : Block) → has_hole (statement_of (tree.While b c) End) ≡ has_hole (code_of c)
hole-While b c = ap has_hole (statement_of-While b c End) ∙ or_false (has_hole (code_of c))

pub hole-Hole : (h : ℕ) → has_hole (statement_of (tree.Hole h) End) ≡ true
hole-Hole h = ap has_hole (statement_of-Hole h End)

pub ruleset hole_tests = (hole-Skip, hole-Assign, hole-Store, hole-If, hole-While, hole-Hole)

-- whether each kind is an if
pub fork-Skip : has_fork (statement_of tree.Skip End) ≡ false
fork-Skip = ap has_fork (statement_of-Skip End)

pub fork-Assign : (x : Name) (e : Expr) → has_fork (statement_of (tree.Assign x e) End) ≡ false
fork-Assign x e = ap has_fork (statement_of-Assign x e End)

pub fork-Store : (a : Name) (i e : Expr) → has_fork (statement_of (tree.Store a i e) End) ≡ false
fork-Store a i e = ap has_fork (statement_of-Store a i e End)

pub fork-If : (b : Cond) (c d : Block) → has_fork (statement_of (tree.If b c d) End) ≡ true
fork-If b c d = ap has_fork (statement_of-If b c d End)

pub fork-While : (b : Cond) (c : Block) → has_fork (statement_of (tree.While b c) End) ≡ false
fork-While b c = ap has_fork (statement_of-While b c End)

pub fork-Hole : (h : ℕ) → has_fork (statement_of (tree.Hole h) End) ≡ false
fork-Hole h = ap has_fork (statement_of-Hole h End)

pub ruleset fork_tests = (fork-Skip, fork-Assign, fork-Store, fork-If, fork-While, fork-Hole)
