-- What the grammar takes where nothing nests too deep, and is no deeper than a task may be, nests nowhere too deep in its canonical text.
use Rattle.sm_text.proofs.Imports.{◌≡◌, ℕ, suc, ◌+◌, ◌<◌, ◌≤◌, false, max, List, [], ◌∷◌, ◌++◌, map, refl, arith, nat_tests, Expression, Condition, Code, End, Skip, Assign, Write, If, While, Hole, append, code_depth, Fillings, filling, fill, Marked, plain, Symbol, Level, IsExpression, Rank, IsCondition, IsHoleNumber, AreStatements, IsBlock}
use Rattle.std.proofs.Common.{nat_le}
use Rattle.sm_syntax.specs.declared.symbol.Mark.TheVariants as mark
use Rattle.sm_syntax.specs.text.MarkedSymbols as g
use Rattle.sm_syntax.specs.text.ExpressionGrammar as exp
use Rattle.sm_syntax.specs.text.ConditionGrammar as cond
use Rattle.sm_syntax.specs.text.StatementGrammar as stmt
use Rattle.sm_text.proofs.RoundTrip.CodeSpelled.{reads, reads_tested, IsPrintable}

-- nothing nests too deep
abbrev pub IsClean : List Marked → Type 0
IsClean [] = Unit {0}
IsClean (t ∷ ts) = (t.1 ≡ false) × IsClean ts

pub clean_left : (ts us : List Marked) → IsClean (ts ++ us) → IsClean ts
clean_left [] us h = tt
clean_left (t ∷ ts) us h = (h.0, clean_left ts us h.1)

pub clean_right : (ts us : List Marked) → IsClean (ts ++ us) → IsClean us
clean_right [] us h = h
clean_right (t ∷ ts) us h = clean_right ts us h.1

pub clean_plain : (ss : List Symbol) → IsClean (map plain ss)
clean_plain [] = tt
clean_plain (x ∷ ss) = (refl, clean_plain ss)

-- where a group opens, fewer than 64 are open
opened : (d : ℕ) → nat_le 64 d ≡ false → d < 64
opened d h = grind (arith, nat_tests)

-- how many reads stand in each other
pub expression_reads : {l : Level} {d k : ℕ} {ts : List Marked} {e : Expression} → IsExpression l d k ts e → IsClean ts → d ≤ 64 →
    d + reads e ≤ 64
expression_reads (exp.number d z) clean few = omega (arith, few)
expression_reads (exp.variable d x) clean few = omega (arith, few)
expression_reads (exp.element {d = d} {ts = ts} a inner) clean few =
    let more = expression_reads inner (clean_left ts (g.word mark.CloseSquare ∷ []) clean.1.1) (omega (arith, opened d clean.1.0)) in
    omega (arith, more)
expression_reads (IsExpression.group {d = d} {ts = ts} inner) clean few =
    let more = expression_reads inner (clean_left ts (g.word mark.CloseRound ∷ []) clean.1) (omega (arith, opened d clean.0)) in
    omega (arith, more)
expression_reads (exp.negative inner) clean few = expression_reads inner clean.1 few
expression_reads (exp.as_unary inner) clean few = expression_reads inner clean few
expression_reads (exp.as_product inner) clean few = expression_reads inner clean few
expression_reads (exp.times {k = k} {ts = ts} {us = us} left right) clean few =
    omega (
      arith,
      expression_reads left (clean_left ts (g.joins mark.Star k ∷ us) clean) few,
      expression_reads right (clean_right ts (g.joins mark.Star k ∷ us) clean).1 few,
    )
expression_reads (exp.as_sum inner) clean few = expression_reads inner clean few
expression_reads (exp.plus {k = k} {ts = ts} {us = us} left right) clean few =
    omega (
      arith,
      expression_reads left (clean_left ts (g.joins mark.Plus k ∷ us) clean) few,
      expression_reads right (clean_right ts (g.joins mark.Plus k ∷ us) clean).1 few,
    )
expression_reads (exp.minus {k = k} {ts = ts} {us = us} left right) clean few =
    omega (
      arith,
      expression_reads left (clean_left ts (g.joins mark.Minus k ∷ us) clean) few,
      expression_reads right (clean_right ts (g.joins mark.Minus k ∷ us) clean).1 few,
    )

pub condition_reads : {r : Rank} {d k : ℕ} {ts : List Marked} {b : Condition} → IsCondition r d k ts b → IsClean ts → d ≤ 64 →
    d + reads_tested b ≤ 64
condition_reads (cond.always d) clean few = omega (arith, few)
condition_reads (cond.never d) clean few = omega (arith, few)
condition_reads (cond.compares {ts = ts} {us = us} op left right) clean few =
    let sign = g.word (cond.comparison op) in
    omega (
      arith,
      expression_reads left (clean_left ts (sign ∷ us) clean) few,
      expression_reads right (clean_right ts (sign ∷ us) clean).1
          few,
    )
condition_reads (IsCondition.group {d = d} {ts = ts} inner) clean few =
    let more = condition_reads inner (clean_left ts (g.word mark.CloseSquare ∷ []) clean.1) (omega (arith, opened d clean.0)) in
    omega (arith, more)
condition_reads (cond.denied inner) clean few = condition_reads inner clean.1 few
condition_reads (cond.as_literal inner) clean few = condition_reads inner clean few
condition_reads (cond.as_conjunction inner) clean few = condition_reads inner clean few
condition_reads (cond.both {k = k} {ts = ts} {us = us} left right) clean few =
    omega (
      arith,
      condition_reads left (clean_left ts (g.joins mark.Both k ∷ us) clean) few,
      condition_reads right (clean_right ts (g.joins mark.Both k ∷ us) clean).1 few,
    )
condition_reads (cond.as_disjunction inner) clean few = condition_reads inner clean few
condition_reads (cond.either {k = k} {ts = ts} {us = us} left right) clean few =
    omega (
      arith,
      condition_reads left (clean_left ts (g.joins mark.Either k ∷ us) clean) few,
      condition_reads right (clean_right ts (g.joins mark.Either k ∷ us) clean).1 few,
    )

mutual
  -- code that is no deeper than a program may be
  pub code_fits : {d : ℕ} {ts : List Marked} {c : Code} → AreStatements d ts c → IsClean ts → d ≤ 64 → code_depth c + d ≤ 66 →
      IsPrintable d c
  code_fits (stmt.none d) clean few deep = tt
  code_fits (stmt.skips more) clean few deep = code_fits more clean.1.1 few (omega (arith, deep))
  code_fits (stmt.assigns {ts = ts} {us = us} x value more) clean few deep =
      let parts = clean.1.1 in (
        record { depth = omega (arith, deep); reads = expression_reads value (clean_left ts (g.word mark.Semicolon ∷ us) parts) few },
        code_fits more (clean_right ts (g.word mark.Semicolon ∷ us) parts).1 few (omega (arith, deep)),
      )
  code_fits (stmt.writes {d = d} {ts = ts} {us = us} {vs = vs} a index value more) clean few deep =
      let open_ = opened d clean.1.0 in
      let behind = g.word mark.CloseSquare ∷ g.word mark.Becomes ∷ (us ++ g.word mark.Semicolon ∷ vs) in
      let rest = (clean_right ts behind clean.1.1).1.1 in (
        open_,
        record { depth = omega (arith, deep); reads = expression_reads index (clean_left ts behind clean.1.1) (omega (arith, open_)) },
        record { depth = omega (arith, deep); reads = expression_reads value (clean_left us (g.word mark.Semicolon ∷ vs) rest) few },
        code_fits more (clean_right us (g.word mark.Semicolon ∷ vs) rest).1 few (omega (arith, deep)),
      )
  code_fits (stmt.branches {d = d} {ts = ts} {us = us} {vs = vs} {ws = ws} test first second more) clean few deep =
      let open_ = opened d clean.1.0 in
      let behind = g.word mark.CloseRound ∷ (us ++ g.word mark.Else ∷ (vs ++ ws)) in
      let blocks = (clean_right ts behind clean.1.1).1 in
      let last = (clean_right us (g.word mark.Else ∷ (vs ++ ws)) blocks).1 in (
        open_,
        record { depth = omega (arith, deep); reads = condition_reads test (clean_left ts behind clean.1.1) (omega (arith, open_)) },
        block_fits first (clean_left us (g.word mark.Else ∷ (vs ++ ws)) blocks) (omega (arith, deep)),
        block_fits second (clean_left vs ws last) (omega (arith, deep)),
        code_fits more (clean_right vs ws last) few (omega (arith, deep)),
      )
  code_fits (stmt.loops {d = d} {ts = ts} {us = us} {vs = vs} test body more) clean few deep =
      let open_ = opened d clean.1.0 in
      let behind = g.word mark.CloseRound ∷ (us ++ vs) in
      let blocks = (clean_right ts behind clean.1.1).1 in (
        open_,
        record { depth = omega (arith, deep); reads = condition_reads test (clean_left ts behind clean.1.1) (omega (arith, open_)) },
        block_fits body (clean_left us vs blocks) (omega (arith, deep)),
        code_fits more (clean_right us vs blocks) few (omega (arith, deep)),
      )
  code_fits (stmt.holes h fits more) clean few deep = (fits, code_fits more clean.1.1.1 few (omega (arith, deep)))

  -- a block of code that is no deeper than a program may be
  pub block_fits : {d : ℕ} {ts : List Marked} {c : Code} → IsBlock d ts c → IsClean ts → code_depth c + d ≤ 65 → IsPrintable (suc d) c
  block_fits (stmt.block {d = d} {ts = ts} inner) clean deep =
      code_fits inner (clean_left ts (g.word mark.CloseCurly ∷ []) clean.1) (omega (arith, opened d clean.0)) (omega (arith, deep))

-- the depth of code one after the other
pub depth-append : (c d : Code) → code_depth (append c d) ≡ max (code_depth c) (code_depth d)
depth-append End d = omega arith
depth-append (Skip k) d = omega (arith, depth-append k d)
depth-append (Assign x e k) d = omega (arith, depth-append k d)
depth-append (Write a i e k) d = omega (arith, depth-append k d)
depth-append (If b c e k) d = omega (arith, depth-append k d)
depth-append (While b c k) d = omega (arith, depth-append k d)
depth-append (Hole h k) d = omega (arith, depth-append k d)

-- filled code is deeper by one at most
pub depth-fill : (fs : Fillings) (c : Code) → code_depth c ≤ code_depth (fill fs c) + 1
depth-fill fs End = omega arith
depth-fill fs (Skip k) = omega (arith, depth-fill fs k)
depth-fill fs (Assign x e k) = omega (arith, depth-fill fs k)
depth-fill fs (Write a i e k) = omega (arith, depth-fill fs k)
depth-fill fs (If b c e k) = omega (arith, depth-fill fs c, depth-fill fs e, depth-fill fs k)
depth-fill fs (While b c k) = omega (arith, depth-fill fs c, depth-fill fs k)
depth-fill fs (Hole h k) = omega (arith, depth-append (filling fs h) (fill fs k), depth-fill fs k)
