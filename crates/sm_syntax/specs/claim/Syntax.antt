-- The abstract syntax of programs: expressions, conditions and code. Public clauses cite it.
-- Names are numbers.
use Rattle.std.specs.Prelude.{ℕ, ℤ}
pub use Rattle.sm_syntax.specs.declared.tree.Cmp.{Cmp}
pub use Rattle.sm_syntax.specs.declared.tree.Cmp.TheVariants.{Eq, Ge, Gt, Le, Lt, Ne}

-- an expression: a literal, a variable, an element of an array, or an operation
pub data Expression : Type 0 where
  Lit : ℤ → Expression
  Var : ℕ → Expression
  Read : ℕ → Expression → Expression
  Neg : Expression → Expression
  Plus Minus Times : Expression → Expression → Expression

-- a condition: a constant, a comparison, or a connective
pub data Condition : Type 0 where
  Yes No : Condition
  Compare : Cmp → Expression → Expression → Condition
  Not : Condition → Condition
  And Or : Condition → Condition → Condition

-- code: a sequence of statements, where each constructor but End is a statement with the code that
-- follows it
pub data Code : Type 0 where
  End : Code
  Skip : Code → Code
  Assign : ℕ → Expression → Code → Code
  Write : ℕ → Expression → Expression → Code → Code
  If : Condition → Code → Code → Code → Code
  While : Condition → Code → Code → Code
  Hole : ℕ → Code → Code

-- the first code and then the second
abbrev pub append : Code → Code → Code
append End r = r
append (Skip k) r = Skip (append k r)
append (Assign x e k) r = Assign x e (append k r)
append (Write a i e k) r = Write a i e (append k r)
append (If b c d k) r = If b c d (append k r)
append (While b c k) r = While b c (append k r)
append (Hole h k) r = Hole h (append k r)
