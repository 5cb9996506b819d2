-- What the grammar spells where groups are open, and nothing nests too deep, it spells where fewer are open.
use Rattle.sm_text.proofs.Imports.{◌≡◌, ℕ, suc, ◌≤◌, Bool, false, sym, ap, ◌∙◌, subst, arith, List, [], ◌∷◌, ◌++◌, nat_tests, Expression, Read, Condition, Code, Write, If, While, Marked, plain, word, opens, joins, Mark, Level, IsExpression, Rank, IsCondition, AreStatements, IsBlock}
use Rattle.std.proofs.Common.{nat_le}
use Rattle.sm_syntax.specs.declared.symbol.Mark.TheVariants as mark
use Rattle.sm_syntax.specs.declared.symbol.Symbol.TheVariants as s
use Rattle.sm_syntax.specs.text.ExpressionGrammar as exp
use Rattle.sm_syntax.specs.text.ConditionGrammar as cond
use Rattle.sm_syntax.specs.text.StatementGrammar as stmt
use Rattle.sm_text.proofs.RoundTrip.Fitting.{IsClean, clean_left, clean_right}

-- a group that doesn't nest too deep doesn't where fewer are open
opens_fewer : (m : Mark) (few many : ℕ) → few ≤ many → nat_le 64 many ≡ false → opens m few ≡ opens m many
opens_fewer m few many less shallow =
    let also : nat_le 64 few ≡ false = grind (arith, nat_tests) in
    ap (λ (b : Bool). (s.Mark m, b)) (also ∙ sym shallow)

expression_fewer : {l : Level} {d k : ℕ} {ts : List Marked} {e : Expression} → IsExpression l d k ts e → IsClean ts → (n : ℕ) → n ≤ d →
    IsExpression l n k ts e
expression_fewer (exp.number d z) clean n less = exp.number n z
expression_fewer (exp.variable d x) clean n less = exp.variable n x
expression_fewer (exp.element {d = d} {ts = ts} {i = i} a inner) clean n less =
    let E : Marked → Type 0 = λ t. IsExpression exp.Atom n 0 (plain (s.Name a) ∷ t ∷ (ts ++ word mark.CloseSquare ∷ [])) (Read a.0 i) in
    subst E (opens_fewer mark.OpenSquare n d less clean.1.0)
    (exp.element a (expression_fewer inner (clean_left ts (word mark.CloseSquare ∷ []) clean.1.1) (suc n) (omega (arith, less))))
expression_fewer (IsExpression.group {d = d} {ts = ts} {e = e} inner) clean n less =
    let E : Marked → Type 0 = λ t. IsExpression exp.Atom n 0 (t ∷ (ts ++ word mark.CloseRound ∷ [])) e in
    subst E (opens_fewer mark.OpenRound n d less clean.0)
    (IsExpression.group (expression_fewer inner (clean_left ts (word mark.CloseRound ∷ []) clean.1) (suc n) (omega (arith, less))))
expression_fewer (exp.negative inner) clean n less = exp.negative (expression_fewer inner clean.1 n less)
expression_fewer (exp.as_unary inner) clean n less = exp.as_unary (expression_fewer inner clean n less)
expression_fewer (exp.as_product inner) clean n less = exp.as_product (expression_fewer inner clean n less)
expression_fewer (exp.times {k = k} {ts = ts} {us = us} left right) clean n less =
    exp.times (expression_fewer left (clean_left ts (joins mark.Star k ∷ us) clean) n less)
    (expression_fewer right (clean_right ts (joins mark.Star k ∷ us) clean).1 n less)
expression_fewer (exp.as_sum inner) clean n less = exp.as_sum (expression_fewer inner clean n less)
expression_fewer (exp.plus {k = k} {ts = ts} {us = us} left right) clean n less =
    exp.plus (expression_fewer left (clean_left ts (joins mark.Plus k ∷ us) clean) n less)
    (expression_fewer right (clean_right ts (joins mark.Plus k ∷ us) clean).1 n less)
expression_fewer (exp.minus {k = k} {ts = ts} {us = us} left right) clean n less =
    exp.minus (expression_fewer left (clean_left ts (joins mark.Minus k ∷ us) clean) n less)
    (expression_fewer right (clean_right ts (joins mark.Minus k ∷ us) clean).1 n less)

condition_fewer : {r : Rank} {d k : ℕ} {ts : List Marked} {b : Condition} → IsCondition r d k ts b → IsClean ts → (n : ℕ) → n ≤ d →
    IsCondition r n k ts b
condition_fewer (cond.always d) clean n less = cond.always n
condition_fewer (cond.never d) clean n less = cond.never n
condition_fewer (cond.compares {ts = ts} {us = us} op left right) clean n less =
    let sign = word (cond.comparison op) in
    cond.compares op (expression_fewer left (clean_left ts (sign ∷ us) clean) n less)
    (expression_fewer right (clean_right ts (sign ∷ us) clean).1 n less)
condition_fewer (IsCondition.group {d = d} {ts = ts} {b = b} inner) clean n less =
    let E : Marked → Type 0 = λ t. IsCondition cond.Test n 0 (t ∷ (ts ++ word mark.CloseSquare ∷ [])) b in
    subst E (opens_fewer mark.OpenSquare n d less clean.0)
    (IsCondition.group (condition_fewer inner (clean_left ts (word mark.CloseSquare ∷ []) clean.1) (suc n) (omega (arith, less))))
condition_fewer (cond.denied inner) clean n less = cond.denied (condition_fewer inner clean.1 n less)
condition_fewer (cond.as_literal inner) clean n less = cond.as_literal (condition_fewer inner clean n less)
condition_fewer (cond.as_conjunction inner) clean n less = cond.as_conjunction (condition_fewer inner clean n less)
condition_fewer (cond.both {k = k} {ts = ts} {us = us} left right) clean n less =
    cond.both (condition_fewer left (clean_left ts (joins mark.Both k ∷ us) clean) n less)
    (condition_fewer right (clean_right ts (joins mark.Both k ∷ us) clean).1 n less)
condition_fewer (cond.as_disjunction inner) clean n less = cond.as_disjunction (condition_fewer inner clean n less)
condition_fewer (cond.either {k = k} {ts = ts} {us = us} left right) clean n less =
    cond.either (condition_fewer left (clean_left ts (joins mark.Either k ∷ us) clean) n less)
    (condition_fewer right (clean_right ts (joins mark.Either k ∷ us) clean).1 n less)

mutual
  statements_fewer : {d : ℕ} {ts : List Marked} {c : Code} → AreStatements d ts c → IsClean ts → (n : ℕ) → n ≤ d → AreStatements n ts c
  statements_fewer (stmt.none d) clean n less = stmt.none n
  statements_fewer (stmt.skips more) clean n less = stmt.skips (statements_fewer more clean.1.1 n less)
  statements_fewer (stmt.assigns {ts = ts} {us = us} x value more) clean n less =
      let parts = clean.1.1 in
      stmt.assigns x (expression_fewer value (clean_left ts (word mark.Semicolon ∷ us) parts) n less)
      (statements_fewer more (clean_right ts (word mark.Semicolon ∷ us) parts).1 n less)
  statements_fewer (stmt.writes {d = d} {ts = ts} {us = us} {vs = vs} {i = i} {e = e} {k = k} a index value more) clean n less =
      let behind = word mark.CloseSquare ∷ word mark.Becomes ∷ (us ++ word mark.Semicolon ∷ vs) in
      let rest = (clean_right ts behind clean.1.1).1.1 in
      let E : Marked → Type 0 = λ t. AreStatements n (plain (s.Name a) ∷ t ∷ (ts ++ behind)) (Write a.0 i e k) in
      subst E (opens_fewer mark.OpenSquare n d less clean.1.0)
      (stmt.writes a (expression_fewer index (clean_left ts behind clean.1.1) (suc n) (omega (arith, less)))
      (expression_fewer value (clean_left us (word mark.Semicolon ∷ vs) rest) n less)
      (statements_fewer more (clean_right us (word mark.Semicolon ∷ vs) rest).1 n less))
  statements_fewer (stmt.branches {d = d} {ts = ts} {us = us} {vs = vs} {ws = ws} {b = b} {c = c} {e = e} {k = k} test first second more)
      clean n less =
      let behind = word mark.CloseRound ∷ (us ++ word mark.Else ∷ (vs ++ ws)) in
      let blocks = (clean_right ts behind clean.1.1).1 in
      let last = (clean_right us (word mark.Else ∷ (vs ++ ws)) blocks).1 in
      let E : Marked → Type 0 = λ t. AreStatements n (word mark.If ∷ t ∷ (ts ++ behind)) (If b c e k) in
      subst E (opens_fewer mark.OpenRound n d less clean.1.0)
      (stmt.branches (condition_fewer test (clean_left ts behind clean.1.1) (suc n) (omega (arith, less)))
      (block_fewer first (clean_left us (word mark.Else ∷ (vs ++ ws)) blocks) n less)
      (block_fewer second (clean_left vs ws last) n less) (statements_fewer more (clean_right vs ws last) n less))
  statements_fewer (stmt.loops {d = d} {ts = ts} {us = us} {vs = vs} {b = b} {c = c} {k = k} test body more) clean n less =
      let behind = word mark.CloseRound ∷ (us ++ vs) in
      let blocks = (clean_right ts behind clean.1.1).1 in
      let E : Marked → Type 0 = λ t. AreStatements n (word mark.While ∷ t ∷ (ts ++ behind)) (While b c k) in
      subst E (opens_fewer mark.OpenRound n d less clean.1.0)
      (stmt.loops (condition_fewer test (clean_left ts behind clean.1.1) (suc n) (omega (arith, less)))
      (block_fewer body (clean_left us vs blocks) n less) (statements_fewer more (clean_right us vs blocks) n less))
  statements_fewer (stmt.holes h fits more) clean n less = stmt.holes h fits (statements_fewer more clean.1.1.1 n less)

  pub block_fewer : {d : ℕ} {ts : List Marked} {c : Code} → IsBlock d ts c → IsClean ts → (n : ℕ) → n ≤ d → IsBlock n ts c
  block_fewer (stmt.block {d = d} {ts = ts} {c = c} inner) clean n less =
      let E : Marked → Type 0 = λ t. IsBlock n (t ∷ (ts ++ word mark.CloseCurly ∷ [])) c in
      subst E (opens_fewer mark.OpenCurly n d less clean.0)
      (stmt.block (statements_fewer inner (clean_left ts (word mark.CloseCurly ∷ []) clean.1) (suc n) (omega (arith, less))))
