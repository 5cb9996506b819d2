-- The grammar of statements and blocks, over symbols. Public clauses cite it.
-- Over each constructor stands the production that it is.
use Rattle.std.specs.Prelude.{ℕ, suc, pos, ◌≤◌, List, [], ◌∷◌, ◌++◌}
use Rattle.sm_syntax.specs.declared.symbol.Mark.TheVariants as mark
use Rattle.sm_syntax.specs.declared.symbol.Symbol.TheVariants as s
use Rattle.sm_syntax.specs.declared.tree.Name.{Name}
use Rattle.sm_syntax.specs.claim.Syntax.{Expression, Condition, Code, End, Skip, Assign, Write, If, While, Hole}
use Rattle.sm_syntax.specs.text.MarkedSymbols.{Marked, plain, word, opens}
use Rattle.sm_syntax.specs.text.ExpressionGrammar.{Sum, IsExpression}
use Rattle.sm_syntax.specs.text.ConditionGrammar.{Disjunction, IsCondition}

-- a hole's number is from 1 to 999
abbrev pub IsHoleNumber : ℕ → Type 0
IsHoleNumber h = (1 ≤ h) × (h ≤ 999)

mutual
  -- where d groups are open, the symbols spell the statements, one after the other
  pub data AreStatements : ℕ → List Marked → Code → Type 0 where
    -- statements = nothing
    none : (d : ℕ) → AreStatements d [] End
    -- statements = "skip" ";" statements
    skips :
        {d : ℕ} {us : List Marked} {k : Code} →
        AreStatements d us k →
        AreStatements d (word mark.Skip ∷ word mark.Semicolon ∷ us) (Skip k)
    -- statements = name "=" sum ";" statements
    assigns :
        {d n : ℕ} {ts us : List Marked} {e : Expression} {k : Code} (x : Name) →
        IsExpression Sum d n ts e →
        AreStatements d us k →
        AreStatements d
        (plain (s.Name x) ∷ word mark.Becomes ∷ (ts ++ word mark.Semicolon ∷ us))
        (Assign x.0 e k)
    -- statements = name "[" sum "]" "=" sum ";" statements
    writes :
        {d m n : ℕ} {ts us vs : List Marked} {i e : Expression} {k : Code} (a : Name) →
        IsExpression Sum (suc d) m ts i →
        IsExpression Sum d n us e →
        AreStatements d vs k →
        AreStatements d
        (plain (s.Name a) ∷ opens mark.OpenSquare d
        ∷ (ts ++ word mark.CloseSquare ∷ word mark.Becomes ∷ (us ++ word mark.Semicolon ∷ vs)))
        (Write a.0 i e k)
    -- statements = "if" "(" disjunction ")" block "else" block statements
    branches :
        {d n : ℕ} {ts us vs ws : List Marked} {b : Condition} {c e k : Code} →
        IsCondition Disjunction (suc d) n ts b →
        IsBlock d us c →
        IsBlock d vs e →
        AreStatements d ws k →
        AreStatements d
        (word mark.If ∷ opens mark.OpenRound d
        ∷ (ts ++ word mark.CloseRound ∷ (us ++ word mark.Else ∷ (vs ++ ws))))
        (If b c e k)
    -- statements = "while" "(" disjunction ")" block statements
    loops :
        {d n : ℕ} {ts us vs : List Marked} {b : Condition} {c k : Code} →
        IsCondition Disjunction (suc d) n ts b →
        IsBlock d us c →
        AreStatements d vs k →
        AreStatements d
        (word mark.While ∷ opens mark.OpenRound d ∷ (ts ++ word mark.CloseRound ∷ (us ++ vs)))
        (While b c k)
    -- statements = "?" number ";" statements
    holes :
        {d : ℕ} {us : List Marked} {k : Code} (h : ℕ) →
        IsHoleNumber h →
        AreStatements d us k →
        AreStatements d
        (word mark.Question ∷ plain (s.Number (pos h)) ∷ word mark.Semicolon ∷ us)
        (Hole h k)

  -- the symbols spell a block of these statements
  pub data IsBlock : ℕ → List Marked → Code → Type 0 where
    -- block = "{" statements "}"
    block :
        {d : ℕ} {ts : List Marked} {c : Code} →
        AreStatements (suc d) ts c →
        IsBlock d (opens mark.OpenCurly d ∷ (ts ++ word mark.CloseCurly ∷ [])) c
