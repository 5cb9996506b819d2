-- What each kind of statement stands for, where more code follows it.
use Rattle.sm_syntax.proofs.Imports.{◌≡◌, ℕ, sym, ap, ◌∙◌, Expr, Name, Code, Skip, Assign, Write, If, While, Hole, expression_of, condition_of, statement_of, code_of, statement_layer, block_layer, Stmt, fold-roll-Stmt, rolls-Skip, rolls-Assign, rolls-Store, rolls-If, rolls-While, rolls-Hole, Block, Cond}
use Rattle.sm_syntax.specs.declared.tree.Stmt.TheOpen as layer
use Rattle.sm_syntax.specs.declared.tree.Stmt.TheVariants as tree

-- a statement without parts, before k
pub statement_of-Skip : (k : Code) → statement_of tree.Skip k ≡ Skip k
statement_of-Skip k =
    ap (λ (s : Stmt). statement_of s k) (sym rolls-Skip) ∙ ap (λ (f : Code → Code). f k) (fold-roll-Stmt (Code → Code) Code statement_layer block_layer layer.Skip)

-- an assignment before k
pub statement_of-Assign : (x : Name) (e : Expr) (k : Code) → statement_of (tree.Assign x e) k ≡ Assign x.0 (expression_of e) k
statement_of-Assign x e k =
    ap (λ (s : Stmt). statement_of s k) (sym (rolls-Assign x e)) ∙ ap (λ (f : Code → Code). f k) (fold-roll-Stmt (Code → Code) Code statement_layer block_layer (layer.Assign x e))

-- a write to an element before k
pub statement_of-Store : (a : Name) (i e : Expr) (k : Code) → statement_of (tree.Store a i e) k ≡ Write a.0 (expression_of i) (expression_of e) k
statement_of-Store a i e k =
    ap (λ (s : Stmt). statement_of s k) (sym (rolls-Store a i e)) ∙ ap (λ (f : Code → Code). f k) (fold-roll-Stmt (Code → Code) Code statement_layer block_layer (layer.Store a i e))

-- a choice before k
pub statement_of-If : (b : Cond) (c d : Block) (k : Code) → statement_of (tree.If b c d) k ≡ If (condition_of b) (code_of c) (code_of d) k
statement_of-If b c d k =
    ap (λ (s : Stmt). statement_of s k) (sym (rolls-If b c d)) ∙ ap (λ (f : Code → Code). f k) (fold-roll-Stmt (Code → Code) Code statement_layer block_layer (layer.If b c d))

-- a loop before k
pub statement_of-While : (b : Cond) (c : Block) (k : Code) → statement_of (tree.While b c) k ≡ While (condition_of b) (code_of c) k
statement_of-While b c k =
    ap (λ (s : Stmt). statement_of s k) (sym (rolls-While b c)) ∙ ap (λ (f : Code → Code). f k) (fold-roll-Stmt (Code → Code) Code statement_layer block_layer (layer.While b c))

-- a hole before k
pub statement_of-Hole : (h : ℕ) (k : Code) → statement_of (tree.Hole h) k ≡ Hole h k
statement_of-Hole h k =
    ap (λ (s : Stmt). statement_of s k) (sym (rolls-Hole h)) ∙ ap (λ (f : Code → Code). f k) (fold-roll-Stmt (Code → Code) Code statement_layer block_layer (layer.Hole h))
