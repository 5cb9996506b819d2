-- The abstract syntax that the program's own trees stand for. Public clauses cite it.
-- Two trees are equal where they stand for the same.
use Rattle.std.specs.Prelude.{List, [], ◌∷◌}
use Rattle.sm_syntax.specs.declared.tree.Expr.{Expr}
use Rattle.sm_syntax.specs.declared.tree.Expr.TheVariants.{Num, Var, Read', Neg', Add', Sub', Mul'}
pub use Rattle.sm_syntax.specs.declared.tree.Cond.{Cond, And, Or}
use Rattle.sm_syntax.specs.declared.tree.Cond.TheVariants.{Yes, No, Cmp, Not', And', Or'}
use Rattle.sm_syntax.specs.declared.tree.Stmt.{fold-Stmt}
pub use Rattle.sm_syntax.specs.declared.tree.Stmt.{Stmt, fold-roll-Stmt, fold_out-Stmt, size-Stmt, Assign, Stmt-F, Store}
use Rattle.sm_syntax.specs.declared.tree.Stmt.TheOpen as layer
use Rattle.sm_syntax.specs.declared.tree.Block.{Block-F, fold-Block}
pub use Rattle.sm_syntax.specs.declared.tree.Block.{Block, fold_out-Block, size-Block}
use Rattle.sm_syntax.specs.claim.Syntax as plain
use Rattle.sm_syntax.specs.claim.Syntax.{Expression, Condition, Code}
pub use Rattle.sm_syntax.specs.declared.tree.Stmt.TheVariants.{rolls-Assign, rolls-Hole, rolls-If, rolls-Skip, rolls-Store, rolls-While}

-- the expression that a tree stands for
abbrev pub expression_of : Expr → Expression
expression_of (Num n) = plain.Lit n
expression_of (Var x) = plain.Var x.0
expression_of (Read' a p i) = plain.Read a.0 (expression_of i)
expression_of (Neg' p e) = plain.Neg (expression_of e)
expression_of (Add' p d q e) = plain.Plus (expression_of d) (expression_of e)
expression_of (Sub' p d q e) = plain.Minus (expression_of d) (expression_of e)
expression_of (Mul' p d q e) = plain.Times (expression_of d) (expression_of e)

-- the condition that a tree stands for
abbrev pub condition_of : Cond → Condition
condition_of Yes = plain.Yes
condition_of No = plain.No
condition_of (Cmp op d e) = plain.Compare op (expression_of d) (expression_of e)
condition_of (Not' p b) = plain.Not (condition_of b)
condition_of (And' p b q c) = plain.And (condition_of b) (condition_of c)
condition_of (Or' p b q c) = plain.Or (condition_of b) (condition_of c)

-- statements one after the other, and then k
abbrev pub sequence : List (Code → Code) → Code → Code
sequence [] k = k
sequence (s ∷ rest) k = s (sequence rest k)

-- one statement before k, where the blocks inside it are code already
abbrev pub statement_layer : Stmt-F (Code → Code) Code → Code → Code
statement_layer layer.Skip k = plain.Skip k
statement_layer (layer.Assign x e) k = plain.Assign x.0 (expression_of e) k
statement_layer (layer.Store a i e) k = plain.Write a.0 (expression_of i) (expression_of e) k
statement_layer (layer.If b c d) k = plain.If (condition_of b) c d k
statement_layer (layer.While b c) k = plain.While (condition_of b) c k
statement_layer (layer.Hole h) k = plain.Hole h k

-- one block, where its statements are code already
abbrev pub block_layer : Block-F (Code → Code) Code → Code
block_layer b = sequence b.list.items plain.End

-- the code that is a statement and then k
abbrev pub statement_of : Stmt → Code → Code
statement_of = fold-Stmt (Code → Code) Code statement_layer block_layer

-- the code of a block
abbrev pub code_of : Block → Code
code_of = fold-Block (Code → Code) Code statement_layer block_layer
