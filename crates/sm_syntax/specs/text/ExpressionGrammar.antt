-- The grammar of expressions, over symbols. Public clauses cite it.
-- Over each constructor stands the production that it is.
use Rattle.std.specs.Prelude.{ℕ, suc, ℤ, List, [], ◌∷◌, ◌++◌}
use Rattle.sm_syntax.specs.declared.symbol.Mark.TheVariants as mark
use Rattle.sm_syntax.specs.declared.symbol.Symbol.TheVariants as s
use Rattle.sm_syntax.specs.declared.tree.Name.{Name}
use Rattle.sm_syntax.specs.claim.Syntax.{Expression, Lit, Var, Read, Neg, Plus, Minus, Times}
use Rattle.sm_syntax.specs.text.MarkedSymbols.{Marked, plain, word, opens, joins}

-- how tightly the parts of an expression are bound: an atom, a unary, a product, a sum
pub data Level : Type 0 where
  Atom Unary Product Sum : Level

-- where d groups are open, the symbols spell the expression at a level, in a chain of k operators
pub data IsExpression : Level → ℕ → ℕ → List Marked → Expression → Type 0 where
  -- atom = number
  number : (d : ℕ) (z : ℤ) → IsExpression Atom d 0 (plain (s.Number z) ∷ []) (Lit z)
  -- atom = name
  variable : (d : ℕ) (x : Name) → IsExpression Atom d 0 (plain (s.Name x) ∷ []) (Var x.0)
  -- atom = name "[" sum "]"
  element :
      {d k : ℕ} {ts : List Marked} {i : Expression} (a : Name) →
      IsExpression Sum (suc d) k ts i →
      IsExpression Atom d 0
      (plain (s.Name a) ∷ opens mark.OpenSquare d ∷ (ts ++ word mark.CloseSquare ∷ []))
      (Read a.0 i)
  -- atom = "(" sum ")"
  group :
      {d k : ℕ} {ts : List Marked} {e : Expression} →
      IsExpression Sum (suc d) k ts e →
      IsExpression Atom d 0 (opens mark.OpenRound d ∷ (ts ++ word mark.CloseRound ∷ [])) e
  -- unary = "-" atom
  negative :
      {d : ℕ} {ts : List Marked} {e : Expression} →
      IsExpression Atom d 0 ts e →
      IsExpression Unary d 0 (word mark.Minus ∷ ts) (Neg e)
  -- unary = atom
  as_unary :
      {d : ℕ} {ts : List Marked} {e : Expression} →
      IsExpression Atom d 0 ts e →
      IsExpression Unary d 0 ts e
  -- product = unary
  as_product :
      {d : ℕ} {ts : List Marked} {e : Expression} →
      IsExpression Unary d 0 ts e →
      IsExpression Product d 0 ts e
  -- product = product "*" unary
  times :
      {d k : ℕ} {ts us : List Marked} {e f : Expression} →
      IsExpression Product d k ts e →
      IsExpression Unary d 0 us f →
      IsExpression Product d (suc k) (ts ++ joins mark.Star k ∷ us) (Times e f)
  -- sum = product
  as_sum :
      {d k : ℕ} {ts : List Marked} {e : Expression} →
      IsExpression Product d k ts e →
      IsExpression Sum d 0 ts e
  -- sum = sum "+" product
  plus :
      {d j k : ℕ} {ts us : List Marked} {e f : Expression} →
      IsExpression Sum d k ts e →
      IsExpression Product d j us f →
      IsExpression Sum d (suc k) (ts ++ joins mark.Plus k ∷ us) (Plus e f)
  -- sum = sum "-" product
  minus :
      {d j k : ℕ} {ts us : List Marked} {e f : Expression} →
      IsExpression Sum d k ts e →
      IsExpression Product d j us f →
      IsExpression Sum d (suc k) (ts ++ joins mark.Minus k ∷ us) (Minus e f)
