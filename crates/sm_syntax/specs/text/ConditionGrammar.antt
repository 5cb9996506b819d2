-- The grammar of conditions, over symbols. Public clauses cite it.
-- Over each constructor stands the production that it is.
use Rattle.std.specs.Prelude.{ℕ, suc, List, [], ◌∷◌, ◌++◌}
use Rattle.sm_syntax.specs.declared.symbol.Mark.TheVariants as mark
use Rattle.sm_syntax.specs.claim.Syntax.{Expression, Condition, Yes, No, Compare, Not, And, Or, Cmp, Eq, Ne, Lt, Le, Gt, Ge}
use Rattle.sm_syntax.specs.text.MarkedSymbols.{Marked, word, opens, joins, Mark}
use Rattle.sm_syntax.specs.text.ExpressionGrammar.{Sum, IsExpression}

-- the sign of a comparison
abbrev pub comparison : Cmp → Mark
comparison Eq = mark.Equal
comparison Ne = mark.Unequal
comparison Lt = mark.Less
comparison Le = mark.AtMost
comparison Gt = mark.Greater
comparison Ge = mark.AtLeast

-- how tightly the parts of a condition are bound: a test, a literal, a conjunction, a disjunction
pub data Rank : Type 0 where
  Test Literal Conjunction Disjunction : Rank

-- where d groups are open, the symbols spell the condition at a rank, in a chain of k operators
pub data IsCondition : Rank → ℕ → ℕ → List Marked → Condition → Type 0 where
  -- test = "true"
  always : (d : ℕ) → IsCondition Test d 0 (word mark.True ∷ []) Yes
  -- test = "false"
  never : (d : ℕ) → IsCondition Test d 0 (word mark.False ∷ []) No
  -- test = sum comparison sum
  compares :
      {d j k : ℕ} {ts us : List Marked} {e f : Expression} (op : Cmp) →
      IsExpression Sum d j ts e →
      IsExpression Sum d k us f →
      IsCondition Test d 0 (ts ++ word (comparison op) ∷ us) (Compare op e f)
  -- test = "[" disjunction "]"
  group :
      {d k : ℕ} {ts : List Marked} {b : Condition} →
      IsCondition Disjunction (suc d) k ts b →
      IsCondition Test d 0 (opens mark.OpenSquare d ∷ (ts ++ word mark.CloseSquare ∷ [])) b
  -- literal = "!" test
  denied :
      {d : ℕ} {ts : List Marked} {b : Condition} →
      IsCondition Test d 0 ts b →
      IsCondition Literal d 0 (word mark.Bang ∷ ts) (Not b)
  -- literal = test
  as_literal :
      {d : ℕ} {ts : List Marked} {b : Condition} →
      IsCondition Test d 0 ts b →
      IsCondition Literal d 0 ts b
  -- conjunction = literal
  as_conjunction :
      {d : ℕ} {ts : List Marked} {b : Condition} →
      IsCondition Literal d 0 ts b →
      IsCondition Conjunction d 0 ts b
  -- conjunction = conjunction "&&" literal
  both :
      {d k : ℕ} {ts us : List Marked} {b c : Condition} →
      IsCondition Conjunction d k ts b →
      IsCondition Literal d 0 us c →
      IsCondition Conjunction d (suc k) (ts ++ joins mark.Both k ∷ us) (And b c)
  -- disjunction = conjunction
  as_disjunction :
      {d k : ℕ} {ts : List Marked} {b : Condition} →
      IsCondition Conjunction d k ts b →
      IsCondition Disjunction d 0 ts b
  -- disjunction = disjunction "||" conjunction
  either :
      {d j k : ℕ} {ts us : List Marked} {b c : Condition} →
      IsCondition Disjunction d k ts b →
      IsCondition Conjunction d j us c →
      IsCondition Disjunction d (suc k) (ts ++ joins mark.Either k ∷ us) (Or b c)
