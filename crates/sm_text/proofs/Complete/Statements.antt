-- All statements and blocks that the grammar spells are read, or refused at the first symbol that nests too deep.
use Rattle.sm_text.proofs.Imports.{◌≡◌, ℕ, suc, zero, ◌+◌, ◌≤◌, pos, refl, sym, ap, ◌∙◌, arith, true, false, ◌&&◌, Some, Result, Ok, List, [], ◌∷◌, ◌++◌, nat_tests, Expression, Condition, Code, Marked, word, opens, Symbol, IsExpression, IsCondition, IsHoleNumber, AreStatements, IsBlock, first, Parser, go_on, ◌>>=◌, ◌>>◌, pure, unmarked}
use Rattle.std.specs.Prelude.{nat_le}
use Rattle.sm_syntax.specs.declared.symbol.Mark.TheVariants as mark
use Rattle.sm_syntax.specs.declared.symbol.Symbol.TheVariants as s
use Rattle.sm_syntax.specs.declared.tree.Name.{Name}
use Rattle.sm_syntax.specs.claim.Syntax as plain_code
use Rattle.sm_syntax.specs.text.ExpressionGrammar as exp
use Rattle.sm_syntax.specs.text.ConditionGrammar as cond
use Rattle.sm_syntax.specs.text.StatementGrammar as stmt
use Rattle.sm_text.specs.rules.Parsers.{expect, Fault}
use Rattle.sm_text.specs.rules.Reading as r
use Rattle.sm_text.proofs.Sound.Loops.{statement-shorter, more_statements-end}
use Rattle.sm_text.proofs.Complete.Parsers.{reach, next, ended, go_on-go_on, go_on-pure, Opened, inside-then, grouped-then, gather-step}
use Rattle.sm_text.proofs.Complete.Expressions.{Ends, full, shallow, expression_read, index_opened}
use Rattle.sm_text.proofs.Complete.Conditions.{guard_opened}

-- a hole's number
pub hole_number_found : (h : ℕ) → IsHoleNumber h → (ts : List Symbol) → r.hole_number (s.Number (pos h) ∷ ts) ≡ Ok (h, ts)
unfolding r.hole_number
hole_number_found h inside ts = rw test refl
  where
    test : (nat_le 1 h && nat_le h 999) ≡ true
    test = grind (arith, nat_tests, inside.0, inside.1)

-- what ends a value
semicolon_ends : Ends (Some (s.Mark mark.Semicolon))
semicolon_ends = record { square = refl; product = refl; sum = refl }

-- the code of the statements that were read
abbrev finish : (Code → Code) → Parser Code
finish front = pure (front plain_code.End)

-- the other statements, after one more
abbrev others : ℕ → (Code → Code) → (Code → Code) → Parser Code
others n before f ts = go_on (r.more_statements n (r.block n) (r.with_statement before f) ts) finish

-- the symbols are read as statements, after those that were read, where n more groups may be opened
abbrev ReadsStatements : ℕ → List Marked → Code → Type 0
ReadsStatements n ts c =
    (before : Code → Code) (z : List Symbol) → r.begins_statement (first z) ≡ false →
    go_on (r.more_statements n (r.block n) before (unmarked ts ++ z)) finish ≡ reach ts z (Ok (before c, z))

-- the symbols are read as a block
abbrev ReadsBlock : ℕ → List Marked → Code → Type 0
ReadsBlock n ts c = (z : List Symbol) → r.block n (unmarked ts ++ z) ≡ reach ts z (Ok (c, z))

step : (n : ℕ) → n ≤ 64 → (before : Code → Code) (ts : List Symbol) → r.begins_statement (first ts) ≡ true →
    r.more_statements n (r.block n) before ts ≡ go_on (r.statement n (r.block n) ts)
    (λ (f : Code → Code). r.more_statements n (r.block n) (r.with_statement before f))
unfolding r.more_statements
step n h before ts b = gather-step r.begins_statement (r.statement n (r.block n)) r.with_statement (statement-shorter n h) before ts b

-- one turn
turn : (n : ℕ) → n ≤ 64 → (before : Code → Code) (ts : List Symbol) (a : Result (Code × List Symbol) Fault) →
    r.begins_statement (first ts) ≡ true → go_on (r.statement n (r.block n) ts) (others n before) ≡ a →
    go_on (r.more_statements n (r.block n) before ts) finish ≡ a
turn n h before ts a b e =
    ap (λ (x : Result ((Code → Code) × List Symbol) Fault). go_on x finish) (step n h before ts b)
    ∙ go_on-go_on (r.statement n (r.block n) ts) (λ (f : Code → Code). r.more_statements n (r.block n) (r.with_statement before f)) finish
    ∙ e

none_read : (n : ℕ) → ReadsStatements n [] plain_code.End
none_read n before z end = ap (λ (x : Result ((Code → Code) × List Symbol) Fault). go_on x finish) (more_statements-end n before z end)

module _ {U : Type 0} (n d : ℕ) (fits : d + n ≡ 64) (more : (Code → Code) → Parser U) (z : List Symbol)
    (a : Result (U × List Symbol) Fault) where
  skip_read : (us : List Marked) → more plain_code.Skip (unmarked us ++ z) ≡ reach us z a →
      go_on (r.statement n (r.block n) (s.Mark mark.Skip ∷ s.Mark mark.Semicolon ∷ (unmarked us ++ z))) more ≡ reach us z a
  unfolding r.statement r.nothing expect
  skip_read us e = e

  assign_read : {k : ℕ} (x : Name) {ts : List Marked} (us : List Marked) {e : Expression} → IsExpression exp.Sum d k ts e →
      more (plain_code.Assign x.0 e) (unmarked us ++ z) ≡ reach us z a →
      go_on (r.statement n (r.block n) (s.Name x ∷ s.Mark mark.Becomes ∷ (unmarked (ts ++ word mark.Semicolon ∷ us) ++ z))) more ≡ reach
      (ts ++ word mark.Semicolon ∷ us) z a
  unfolding r.statement r.changed r.assignment expect
  assign_read x {ts = ts} us {e = e} p f =
      ended (r.expression n) mark.Semicolon (λ (v : Expression) (k : Code). plain_code.Assign x.0 v k) ts us e z more a
      (λ y. expression_read p n fits (s.Mark mark.Semicolon ∷ y) semicolon_ends) f

  write_read : {j k : ℕ} (x : Name) {ts us : List Marked} (vs : List Marked) {i e : Expression} → IsExpression exp.Sum (suc d) j ts i →
      IsExpression exp.Sum d k us e → more (plain_code.Write x.0 i e) (unmarked vs ++ z) ≡ reach vs z a →
      go_on (r.statement n (r.block n)
      (s.Name x ∷ s.Mark mark.OpenSquare ∷ (unmarked (ts ++ word mark.CloseSquare ∷ word mark.Becomes ∷ (us ++ word mark.Semicolon ∷ vs)) ++
      z))) more ≡ reach (opens mark.OpenSquare d ∷ (ts ++ word mark.CloseSquare ∷ word mark.Becomes ∷ (us ++ word mark.Semicolon ∷ vs))) z a
  unfolding r.statement r.changed r.write r.index expect
  write_read x {ts = ts} {us = us} vs {i = i} {e = e} p q f =
      go_on-go_on (r.index (r.inner_sum n)
      (s.Mark mark.OpenSquare ∷ (unmarked (ts ++ word mark.CloseSquare ∷ word mark.Becomes ∷ (us ++ word mark.Semicolon ∷ vs)) ++ z)))
      value more
      ∙ inside-then (r.inner_sum n) d mark.OpenSquare mark.CloseSquare ts (word mark.Becomes ∷ (us ++ word mark.Semicolon ∷ vs)) i z
      (λ (j : Expression) (l : List Symbol). go_on (value j l) more) a (index_opened p n fits)
      (ended (r.expression n) mark.Semicolon (λ (v : Expression) (k : Code). plain_code.Write x.0 i v k) us vs e z more a
      (λ y. expression_read q n fits (s.Mark mark.Semicolon ∷ y) semicolon_ends) f)
    where
      value : Expression → Parser (Code → Code)
      value j = expect mark.Becomes >> (r.expression n >>= λ (v : Expression). expect mark.Semicolon >> pure (plain_code.Write x.0 j v))

  hole_read : (h : ℕ) → IsHoleNumber h → (us : List Marked) → more (plain_code.Hole h) (unmarked us ++ z) ≡ reach us z a →
      go_on (r.statement n (r.block n) (s.Mark mark.Question ∷ s.Number (pos h) ∷ s.Mark mark.Semicolon ∷ (unmarked us ++ z))) more ≡ reach
      us z a
  unfolding r.statement r.hole expect
  hole_read h inside us e =
      ap (λ (x : Result (ℕ × List Symbol) Fault). go_on (go_on x (λ (y : ℕ). expect mark.Semicolon >> pure (plain_code.Hole y))) more)
      (hole_number_found h inside (s.Mark mark.Semicolon ∷ (unmarked us ++ z))) ∙ e

  branch_read : {k : ℕ} {ts : List Marked} (us vs ws : List Marked) {b : Condition} {c e : Code} →
      IsCondition cond.Disjunction (suc d) k ts b → ReadsBlock n us c → ReadsBlock n vs e →
      more (plain_code.If b c e) (unmarked ws ++ z) ≡ reach ws z a →
      go_on (r.statement n (r.block n)
      (s.Mark mark.If ∷ s.Mark mark.OpenRound ∷ (unmarked (ts ++ word mark.CloseRound ∷ (us ++ word mark.Else ∷ (vs ++ ws))) ++ z)))
      more ≡ reach (opens mark.OpenRound d ∷ (ts ++ word mark.CloseRound ∷ (us ++ word mark.Else ∷ (vs ++ ws)))) z a
  unfolding r.statement r.branch r.guard expect
  branch_read {ts = ts} us vs ws {b = b} {c = c} {e = e} p one two f =
      go_on-go_on (r.guard n (s.Mark mark.OpenRound ∷ (unmarked (ts ++ word mark.CloseRound ∷ (us ++ word mark.Else ∷ (vs ++ ws))) ++ z)))
      blocks more
      ∙ grouped-then (r.inner_condition n) d mark.OpenRound mark.CloseRound ts (us ++ word mark.Else ∷ (vs ++ ws)) b z
      (λ (x : Condition) (l : List Symbol). go_on (blocks x l) more) a (guard_opened p n fits)
      (go_on-go_on (r.block n (unmarked (us ++ word mark.Else ∷ (vs ++ ws)) ++ z)) (no_block b) more
      ∙ next (r.block n) us (word mark.Else ∷ (vs ++ ws)) z (Ok (c, s.Mark mark.Else ∷ (unmarked (vs ++ ws) ++ z)))
      (λ (x : Code) (l : List Symbol). go_on (no_block b x l) more) a (one (s.Mark mark.Else ∷ (unmarked (vs ++ ws) ++ z)))
      (go_on-go_on (r.block n (unmarked (vs ++ ws) ++ z)) (λ (y : Code). pure (plain_code.If b c y)) more
      ∙ next (r.block n) vs ws z (Ok (e, unmarked ws ++ z)) (λ (y : Code) (l : List Symbol). go_on (pure (plain_code.If b c y) l) more) a
      (two (unmarked ws ++ z)) f))
    where
      no_block : Condition → Code → Parser (Code → Code)
      no_block x y = expect mark.Else >> (r.block n >>= λ (v : Code). pure (plain_code.If x y v))

      blocks : Condition → Parser (Code → Code)
      blocks x = r.block n >>= no_block x

  loop_read : {k : ℕ} {ts : List Marked} (us vs : List Marked) {b : Condition} {c : Code} → IsCondition cond.Disjunction (suc d) k ts b →
      ReadsBlock n us c → more (plain_code.While b c) (unmarked vs ++ z) ≡ reach vs z a →
      go_on (r.statement n (r.block n)
      (s.Mark mark.While ∷ s.Mark mark.OpenRound ∷ (unmarked (ts ++ word mark.CloseRound ∷ (us ++ vs)) ++ z))) more ≡ reach
      (opens mark.OpenRound d ∷ (ts ++ word mark.CloseRound ∷ (us ++ vs))) z a
  unfolding r.statement r.repeated r.guard
  loop_read {ts = ts} us vs {b = b} {c = c} p body f =
      go_on-go_on (r.guard n (s.Mark mark.OpenRound ∷ (unmarked (ts ++ word mark.CloseRound ∷ (us ++ vs)) ++ z))) block_of more
      ∙ grouped-then (r.inner_condition n) d mark.OpenRound mark.CloseRound ts (us ++ vs) b z
      (λ (x : Condition) (l : List Symbol). go_on (block_of x l) more) a (guard_opened p n fits)
      (go_on-go_on (r.block n (unmarked (us ++ vs) ++ z)) (λ (y : Code). pure (plain_code.While b y)) more
      ∙ next (r.block n) us vs z (Ok (c, unmarked vs ++ z)) (λ (y : Code) (l : List Symbol). go_on (pure (plain_code.While b y) l) more) a
      (body (unmarked vs ++ z)) f)
    where
      block_of : Condition → Parser (Code → Code)
      block_of x = r.block n >>= λ (y : Code). pure (plain_code.While x y)

-- inside a block
block_opened : (n d : ℕ) → d + n ≡ 64 → (ts : List Marked) (c : Code) → ((m : ℕ) → suc d + m ≡ 64 → ReadsStatements m ts c) →
    Opened (r.inner_block n) d ts c mark.CloseCurly
unfolding r.inner_block r.block r.statements
block_opened zero d fits ts c read = full d fits
block_opened (suc m) d fits ts c read = (shallow d m fits, λ z. read m (omega (arith, fits)) (λ k. k) (s.Mark mark.CloseCurly ∷ z) refl)

braces_read : (n d : ℕ) → d + n ≡ 64 → (ts : List Marked) (c : Code) → ((m : ℕ) → suc d + m ≡ 64 → ReadsStatements m ts c) →
    ReadsBlock n (opens mark.OpenCurly d ∷ (ts ++ word mark.CloseCurly ∷ [])) c
unfolding r.block r.braced
braces_read n d fits ts c read z =
    sym (go_on-pure (r.block n (s.Mark mark.OpenCurly ∷ (unmarked (ts ++ word mark.CloseCurly ∷ []) ++ z))))
    ∙ grouped-then (r.inner_block n) d mark.OpenCurly mark.CloseCurly ts [] c z pure (Ok (c, z)) (block_opened n d fits ts c read) refl

few : (n d : ℕ) → d + n ≡ 64 → n ≤ 64
few n d fits = omega (arith, fits)

mutual
  pub statements_read : {d : ℕ} {ts : List Marked} {c : Code} → AreStatements d ts c → (n : ℕ) → d + n ≡ 64 → ReadsStatements n ts c
  statements_read (stmt.none d) n fits before z end = none_read n before z end
  statements_read (stmt.skips {d = d} {us = us} {k = k} p) n fits before z end =
      turn n (few n d fits) before (s.Mark mark.Skip ∷ s.Mark mark.Semicolon ∷ (unmarked us ++ z))
      (reach us z (Ok (before (plain_code.Skip k), z))) refl
      (skip_read n d fits (others n before) z (Ok (before (plain_code.Skip k), z)) us
      (statements_read p n fits (r.with_statement before plain_code.Skip) z end))
  statements_read (stmt.assigns {d = d} {ts = ts} {us = us} {e = e} {k = k} x p q) n fits before z end =
      turn n (few n d fits) before (s.Name x ∷ s.Mark mark.Becomes ∷ (unmarked (ts ++ word mark.Semicolon ∷ us) ++ z))
      (reach (ts ++ word mark.Semicolon ∷ us) z (Ok (before (plain_code.Assign x.0 e k), z))) refl
      (assign_read n d fits (others n before) z (Ok (before (plain_code.Assign x.0 e k), z)) x us p
      (statements_read q n fits (r.with_statement before (plain_code.Assign x.0 e)) z end))
  statements_read (stmt.writes {d = d} {ts = ts} {us = us} {vs = vs} {i = i} {e = e} {k = k} x p q rest) n fits before z end =
      turn n (few n d fits) before
      (s.Name x ∷ s.Mark mark.OpenSquare ∷ (unmarked (ts ++ word mark.CloseSquare ∷ word mark.Becomes ∷ (us ++ word mark.Semicolon ∷ vs)) ++
      z)) (reach (opens mark.OpenSquare d ∷ (ts ++ word mark.CloseSquare ∷ word mark.Becomes ∷ (us ++ word mark.Semicolon ∷ vs))) z
      (Ok (before (plain_code.Write x.0 i e k), z))) refl
      (write_read n d fits (others n before) z (Ok (before (plain_code.Write x.0 i e k), z)) x vs p q
      (statements_read rest n fits (r.with_statement before (plain_code.Write x.0 i e)) z end))
  statements_read (stmt.branches {d = d} {ts = ts} {us = us} {vs = vs} {ws = ws} {b = b} {c = c} {e = e} {k = k} p one two rest) n fits
      before z end = turn n (few n d fits) before
      (s.Mark mark.If ∷ s.Mark mark.OpenRound ∷ (unmarked (ts ++ word mark.CloseRound ∷ (us ++ word mark.Else ∷ (vs ++ ws))) ++ z))
      (reach (opens mark.OpenRound d ∷ (ts ++ word mark.CloseRound ∷ (us ++ word mark.Else ∷ (vs ++ ws)))) z
      (Ok (before (plain_code.If b c e k), z))) refl
      (branch_read n d fits (others n before) z (Ok (before (plain_code.If b c e k), z)) us vs ws p (block_read one n fits)
      (block_read two n fits) (statements_read rest n fits (r.with_statement before (plain_code.If b c e)) z end))
  statements_read (stmt.loops {d = d} {ts = ts} {us = us} {vs = vs} {b = b} {c = c} {k = k} p body rest) n fits before z end =
      turn n (few n d fits) before (s.Mark mark.While ∷ s.Mark mark.OpenRound ∷ (unmarked (ts ++ word mark.CloseRound ∷ (us ++ vs)) ++ z))
      (reach (opens mark.OpenRound d ∷ (ts ++ word mark.CloseRound ∷ (us ++ vs))) z (Ok (before (plain_code.While b c k), z))) refl
      (loop_read n d fits (others n before) z (Ok (before (plain_code.While b c k), z)) us vs p (block_read body n fits)
      (statements_read rest n fits (r.with_statement before (plain_code.While b c)) z end))
  statements_read (stmt.holes {d = d} {us = us} {k = k} h inside p) n fits before z end =
      turn n (few n d fits) before (s.Mark mark.Question ∷ s.Number (pos h) ∷ s.Mark mark.Semicolon ∷ (unmarked us ++ z))
      (reach us z (Ok (before (plain_code.Hole h k), z))) refl
      (hole_read n d fits (others n before) z (Ok (before (plain_code.Hole h k), z)) h inside us
      (statements_read p n fits (r.with_statement before (plain_code.Hole h)) z end))

  pub block_read : {d : ℕ} {ts : List Marked} {c : Code} → IsBlock d ts c → (n : ℕ) → d + n ≡ 64 → ReadsBlock n ts c
  block_read (stmt.block {d = d} {ts = ts} {c = c} p) n fits = braces_read n d fits ts c (λ m f. statements_read p m f)
