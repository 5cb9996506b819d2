-- What statements and lists of statements assign.
use Rattle.sm_deps.proofs.Imports.{◌≡◌, ◌+◌, ◌<◌, ◌≤◌, ℕ, Bool, ◌==◌, ◌||◌, List, length, map, drop, get_or, refl, sym, ap, ◌∙◌, fun_ext, Expr, Name, assigns, Code, End, Skip, Write, If, While, Hole, append, sequence, statement_of, code_of, Stmt, Block, Cond, statement_is, sequence-drop, sequence-drop-end, statement_of-Skip, statement_of-Assign, statement_of-Store, statement_of-If, statement_of-While, statement_of-Hole, or_false, or_assoc}
use Rattle.sm_syntax.specs.declared.tree.Stmt.TheVariants as tree
use Rattle.sm_syntax.specs.claim.Syntax.{Assign}
use Rattle.sm_deps.specs.Members.{only, either}
use Rattle.sm_deps.proofs.MembersLemmas.{none, either-none, either-either}

-- one code after another assigns what either does
assigns-append : (c r : Code) (x : ℕ) → assigns (append c r) x ≡ (assigns c x || assigns r x)
assigns-append End r x = refl
assigns-append (Skip k) r x = assigns-append k r x
assigns-append (Assign y e k) r x =
    ap (λ (b : Bool). x == y || b) (assigns-append k r x) ∙ sym (or_assoc (x == y) (assigns k x) (assigns r x))
assigns-append (Write a i e k) r x =
    ap (λ (b : Bool). x == a || b) (assigns-append k r x) ∙ sym (or_assoc (x == a) (assigns k x) (assigns r x))
assigns-append (If b c d k) r x =
    ap (λ (m : Bool). (assigns c x || assigns d x) || m) (assigns-append k r x) ∙
    sym (or_assoc (assigns c x || assigns d x) (assigns k x) (assigns r x))
assigns-append (While b c k) r x =
    ap (λ (m : Bool). assigns c x || m) (assigns-append k r x) ∙ sym (or_assoc (assigns c x) (assigns k x) (assigns r x))
assigns-append (Hole h k) r x = assigns-append k r x

-- a statement that assigns nothing
pub assigns-Skip : assigns (statement_of tree.Skip End) ≡ none
unfolding none
assigns-Skip = ap assigns (statement_of-Skip End)

pub assigns-Hole : (h : ℕ) → assigns (statement_of (tree.Hole h) End) ≡ none
unfolding none
assigns-Hole h = ap assigns (statement_of-Hole h End)

-- one that assigns a name
pub assigns-Assign : (x : Name) (e : Expr) → assigns (statement_of (tree.Assign x e) End) ≡ only x.0
unfolding only
assigns-Assign x e = ap assigns (statement_of-Assign x e End) ∙ fun_ext (λ (q : ℕ). or_false (q == x.0))

pub assigns-Store : (a : Name) (i e : Expr) → assigns (statement_of (tree.Store a i e) End) ≡ only a.0
unfolding only
assigns-Store a i e = ap assigns (statement_of-Store a i e End) ∙ fun_ext (λ (q : ℕ). or_false (q == a.0))

-- one with parts
pub assigns-If : (b : Cond) (c d : Block) → assigns (statement_of (tree.If b c d) End) ≡ either (assigns (code_of c)) (assigns (code_of d))
unfolding either
assigns-If b c d = ap assigns (statement_of-If b c d End) ∙ fun_ext (λ (q : ℕ). or_false (assigns (code_of c) q || assigns (code_of d) q))

pub assigns-While : (b : Cond) (c : Block) → assigns (statement_of (tree.While b c) End) ≡ assigns (code_of c)
assigns-While b c = ap assigns (statement_of-While b c End) ∙ fun_ext (λ (q : ℕ). or_false (assigns (code_of c) q))

-- a list's statements from i on, where s stands at i
pub assigns-drop : (l : List Stmt) (i : ℕ) (s : Stmt) → i < length l → s ≡ get_or l i s →
    assigns (sequence (map statement_of (drop i l)) End) ≡ either (assigns (statement_of s End))
    (assigns (sequence (map statement_of (drop (i + 1) l)) End))
unfolding either
assigns-drop l i s here item =
    let k = sequence (map statement_of (drop (i + 1) l)) End in
    ap assigns (sequence-drop l i s End here ∙ statement_is (get_or l i s) k) ∙
    ap (λ (t : Stmt). assigns (append (statement_of t End) k)) (sym item) ∙
    fun_ext (assigns-append (statement_of s End) k)

-- the end of a list
pub assigns-drop-end : (l : List Stmt) (i : ℕ) → length l ≤ i → assigns (sequence (map statement_of (drop i l)) End) ≡ none
unfolding none
assigns-drop-end l i past = ap assigns (sequence-drop-end l i End past)

-- what adds up names that are assigned needs
pub ruleset assignments =
    (either-none, either-either, assigns-Skip, assigns-Hole, assigns-Assign, assigns-Store, assigns-If, assigns-While, assigns-drop-end)
