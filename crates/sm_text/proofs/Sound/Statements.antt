-- What is read of statements and blocks is what the grammar says.
use Rattle.sm_text.proofs.Imports.{◌≡◌, ℕ, suc, zero, ◌+◌, ◌<◌, pos, refl, sym, ap, ◌∙◌, subst, arith, Bool, true, false, Option, Some, None, List, [], ◌∷◌, ◌++◌, length, append_assoc, Code, Marked, plain, word, opens, Symbol, Mark, AreStatements, IsBlock, rest, Parser, ◌>>◌, skip, refuse, stands, Expected}
use Rattle.std.specs.Prelude.{if◌then◌else◌}
use Rattle.std.proofs.lemmas.List.{append-nil}
use denote.Enum.Bare.{sameb}
use Rattle.sm_syntax.specs.contracts.symbol.Mark.{the_type}
use Rattle.sm_syntax.specs.declared.symbol.Mark.TheVariants as mark
use Rattle.sm_syntax.specs.declared.symbol.Symbol.TheVariants as s
use Rattle.sm_syntax.specs.declared.tree.Name.{Name}
use Rattle.sm_syntax.specs.claim.Syntax as plain_code
use Rattle.sm_syntax.specs.text.StatementGrammar as stmt
use Rattle.sm_text.specs.rules.Reading as r
use Rattle.sm_text.proofs.Sound.Parsers.{made, Possible, Describes, DescribesAt, Both, Is, IsMark, bind, both, weaken, possibly-behind, give}
use Rattle.sm_text.proofs.Sound.Choices.{at_mark, refused_at, anywhere, choose, choose_by, after, expect_told, bind_at, weaken_at, standing, Inner, Enclosed, inside_told, grouped_told}
use Rattle.sm_text.proofs.Sound.Gathered.{Gathers, none, more, gathered}
use Rattle.sm_text.proofs.Sound.Names.{IsHole, hole_number_told}
use Rattle.sm_text.proofs.Sound.Expressions.{IsSum, shallow, deep, inner_sum_told, expression_told}
use Rattle.sm_text.proofs.Sound.Conditions.{IsDisjunction, inner_condition_told}

-- a statement where d groups are open, before the code that follows it
pub record IsStatement (d : ℕ) (us : List Marked) (f : Code → Code) : Type 0 where
  pub some : 0 < length us
  pub goes : (vs : List Marked) (k : Code) → AreStatements d vs k → AreStatements d (us ++ vs) (f k)

-- the statement that is read after its first symbol, where it is so built
same_statement : (d : ℕ) (t : Symbol) (body us : List Marked) (f h : Code → Code) → us ≡ body → f ≡ h →
    ((vs : List Marked) (k : Code) → AreStatements d vs k → AreStatements d (plain t ∷ (body ++ vs)) (f k)) → IsStatement d (plain t ∷ us) h
same_statement d t body us f h e same goes =
    made (λ l y. IsStatement d (plain t ∷ l) y) body us f h e same (record { some = omega arith; goes = goes })

module _ (n d : ℕ) (fits : d + n ≡ 64) (body : Parser Code) (blocks : Describes body (IsBlock d)) where
  is_assignment : (x : Name) (us : List Marked) (f : Code → Code) →
      Both (IsMark mark.Becomes) (λ _. Both (IsSum d) (λ e. Both (IsMark mark.Semicolon) (λ _. Is (plain_code.Assign x.0 e)))) us f →
      IsStatement d (plain (s.Name x) ∷ us) f
  is_assignment x us f b =
      same_statement d (s.Name x) (word mark.Becomes ∷ (b.two.front ++ word mark.Semicolon ∷ [])) us (plain_code.Assign x.0 b.two.value) f
      line b.two.two.two.same goes
    where
      line : us ≡ word mark.Becomes ∷ (b.two.front ++ word mark.Semicolon ∷ [])
      line = b.parts ∙ ap (λ (l : List Marked). l ++ b.behind) b.one
          ∙ ap (λ (l : List Marked). word mark.Becomes ∷ l)
          (b.two.parts ∙ ap (λ (l : List Marked). b.two.front ++ l)
          (b.two.two.parts ∙ ap (λ (l : List Marked). l ++ b.two.two.behind) b.two.two.one
          ∙ ap (λ (l : List Marked). word mark.Semicolon ∷ l) b.two.two.two.none))

      goes : (vs : List Marked) (k : Code) → AreStatements d vs k →
          AreStatements d (plain (s.Name x) ∷ (word mark.Becomes ∷ (b.two.front ++ word mark.Semicolon ∷ []) ++ vs))
          (plain_code.Assign x.0 b.two.value k)
      goes vs k others =
          let F : List Marked → Type 0 =
          λ l. AreStatements d (plain (s.Name x) ∷ word mark.Becomes ∷ l) (plain_code.Assign x.0 b.two.value k) in
          subst F (sym (append_assoc b.two.front (word mark.Semicolon ∷ []) vs)) (stmt.assigns x b.two.one.spelled others)

  assignment_told : (x : Name) → Describes (r.assignment n x) (λ us f. IsStatement d (plain (s.Name x) ∷ us) f)
  unfolding r.assignment
  assignment_told x = weaken (is_assignment x)
      (both (expect_told mark.Becomes)
      (bind (expression_told n d fits) (λ e. both (expect_told mark.Semicolon) (give (plain_code.Assign x.0 e)))))

  is_write : (x : Name) (us : List Marked) (f : Code → Code) →
      Both (Enclosed d mark.OpenSquare mark.CloseSquare (IsSum (suc d)))
      (λ i. Both (IsMark mark.Becomes) (λ _. Both (IsSum d) (λ e. Both (IsMark mark.Semicolon) (λ _. Is (plain_code.Write x.0 i e))))) us
      f → IsStatement d (plain (s.Name x) ∷ us) f
  is_write x us f b = same_statement d (s.Name x) whole us (plain_code.Write x.0 b.value b.two.two.value) f line b.two.two.two.two.same goes
    where
      whole : List Marked
      whole = opens mark.OpenSquare
          d ∷ (b.one.body ++ word mark.CloseSquare ∷ word mark.Becomes ∷ (b.two.two.front ++ word mark.Semicolon ∷ []))

      line : us ≡ opens mark.OpenSquare
          d ∷ (b.one.body ++ word mark.CloseSquare ∷ word mark.Becomes ∷ (b.two.two.front ++ word mark.Semicolon ∷ []))
      line = b.parts ∙ ap (λ (l : List Marked). l ++ b.behind) b.one.split
          ∙ ap (λ (l : List Marked). opens mark.OpenSquare d ∷ l) (append_assoc b.one.body (word mark.CloseSquare ∷ []) b.behind
          ∙ ap (λ (l : List Marked). b.one.body ++ word mark.CloseSquare ∷ l)
          (b.two.parts ∙ ap (λ (l : List Marked). l ++ b.two.behind) b.two.one
          ∙ ap (λ (l : List Marked). word mark.Becomes ∷ l)
          (b.two.two.parts ∙ ap (λ (l : List Marked). b.two.two.front ++ l)
          (b.two.two.two.parts ∙ ap (λ (l : List Marked). l ++ b.two.two.two.behind) b.two.two.two.one
          ∙ ap (λ (l : List Marked). word mark.Semicolon ∷ l) b.two.two.two.two.none))))

      goes : (vs : List Marked) (k : Code) → AreStatements d vs k →
          AreStatements d (plain (s.Name x) ∷
          (opens mark.OpenSquare d ∷ (b.one.body ++ word mark.CloseSquare ∷ word
          mark.Becomes ∷ (b.two.two.front ++ word mark.Semicolon ∷ [])) ++ vs)) (plain_code.Write x.0 b.value b.two.two.value k)
      goes vs k others =
          let F : List Marked → Type 0 =
          λ l. AreStatements d (plain (s.Name x) ∷ opens mark.OpenSquare d ∷ l) (plain_code.Write x.0 b.value b.two.two.value k) in
          subst F (sym (append_assoc b.one.body (word mark.CloseSquare ∷ word mark.Becomes ∷ (b.two.two.front ++ word mark.Semicolon ∷ []))
          vs ∙ ap (λ (l : List Marked). b.one.body ++ word mark.CloseSquare ∷ word mark.Becomes ∷ l)
          (append_assoc b.two.two.front (word mark.Semicolon ∷ []) vs))) (stmt.writes x b.one.fits.spelled b.two.two.one.spelled others)

  changed_told : (x : Name) → Describes (r.changed n x) (λ us f. IsStatement d (plain (s.Name x) ∷ us) f)
  unfolding r.changed r.write r.index
  changed_told x = choose_by (λ o. r.changed_by n x (stands mark.OpenSquare o)) (λ ts. refl) (assignment_told x).possible
      (λ o. by o (stands mark.OpenSquare o) refl)
    where
      by : (o : Option Symbol) (b : Bool) → stands mark.OpenSquare o ≡ b →
          DescribesAt o (r.changed_by n x b) (λ us f. IsStatement d (plain (s.Name x) ∷ us) f)
      by o true e = standing mark.OpenSquare o e
          (weaken_at (is_write x) (bind_at
          (inside_told (r.inner_sum n) (IsSum (suc d)) d mark.OpenSquare mark.CloseSquare (inner_sum_told n d fits))
          (λ i. both (expect_told mark.Becomes)
          (bind (expression_told n d fits) (λ v. both (expect_told mark.Semicolon) (give (plain_code.Write x.0 i v)))))))
      by o false e = anywhere o (assignment_told x)

  is_hole_statement : (us : List Marked) (f : Code → Code) →
      Both IsHole (λ h. Both (IsMark mark.Semicolon) (λ _. Is (plain_code.Hole h))) us f → IsStatement d (word mark.Question ∷ us) f
  is_hole_statement us f b =
      same_statement d (s.Mark mark.Question) (plain (s.Number (pos b.value)) ∷ word mark.Semicolon ∷ []) us (plain_code.Hole b.value) f
      line b.two.two.same (λ vs k others. stmt.holes b.value b.one.inside others)
    where
      line : us ≡ plain (s.Number (pos b.value)) ∷ word mark.Semicolon ∷ []
      line = b.parts ∙ ap (λ (l : List Marked). l ++ b.behind) b.one.split
          ∙ ap (λ (l : List Marked). plain (s.Number (pos b.value)) ∷ l)
          (b.two.parts ∙ ap (λ (l : List Marked). l ++ b.two.behind) b.two.one
          ∙ ap (λ (l : List Marked). word mark.Semicolon ∷ l) b.two.two.none)

  hole_told : Describes r.hole (λ us f. IsStatement d (word mark.Question ∷ us) f)
  unfolding r.hole
  hole_told = weaken is_hole_statement (bind hole_number_told (λ h. both (expect_told mark.Semicolon) (give (plain_code.Hole h))))

  is_skip : (us : List Marked) (f : Code → Code) → Both (IsMark mark.Semicolon) (λ _. Is plain_code.Skip) us f →
      IsStatement d (word mark.Skip ∷ us) f
  is_skip us f b = same_statement d (s.Mark mark.Skip) (word mark.Semicolon ∷ []) us plain_code.Skip f line b.two.same
      (λ vs k others. stmt.skips others)
    where
      line : us ≡ word mark.Semicolon ∷ []
      line = b.parts ∙ ap (λ (l : List Marked). l ++ b.behind) b.one ∙ ap (λ (l : List Marked). word mark.Semicolon ∷ l) b.two.none

  nothing_told : Describes r.nothing (λ us f. IsStatement d (word mark.Skip ∷ us) f)
  unfolding r.nothing
  nothing_told = weaken is_skip (both (expect_told mark.Semicolon) (give plain_code.Skip))

  guard_told : Describes (r.guard n) (Enclosed d mark.OpenRound mark.CloseRound (IsDisjunction (suc d)))
  unfolding r.guard
  guard_told = grouped_told (r.inner_condition n) (IsDisjunction (suc d)) d mark.OpenRound mark.CloseRound (inner_condition_told n d fits)

  is_branch : (us : List Marked) (f : Code → Code) → Both (Enclosed d mark.OpenRound mark.CloseRound (IsDisjunction (suc d)))
      (λ b. Both (IsBlock d) (λ c. Both (IsMark mark.Else) (λ _. Both (IsBlock d) (λ e. Is (plain_code.If b c e))))) us f →
      IsStatement d (word mark.If ∷ us) f
  is_branch us f b = same_statement d (s.Mark mark.If)
      (opens mark.OpenRound d ∷ (b.one.body ++ word mark.CloseRound ∷ (b.two.front ++ word mark.Else ∷ b.two.two.two.front))) us
      (plain_code.If b.value b.two.value b.two.two.two.value) f line b.two.two.two.two.same goes
    where
      line : us ≡ opens mark.OpenRound d ∷ (b.one.body ++ word mark.CloseRound ∷ (b.two.front ++ word mark.Else ∷ b.two.two.two.front))
      line = b.parts ∙ ap (λ (l : List Marked). l ++ b.behind) b.one.split
          ∙ ap (λ (l : List Marked). opens mark.OpenRound d ∷ l) (append_assoc b.one.body (word mark.CloseRound ∷ []) b.behind
          ∙ ap (λ (l : List Marked). b.one.body ++ word mark.CloseRound ∷ l)
          (b.two.parts ∙ ap (λ (l : List Marked). b.two.front ++ l)
          (b.two.two.parts ∙ ap (λ (l : List Marked). l ++ b.two.two.behind) b.two.two.one
          ∙ ap (λ (l : List Marked). word mark.Else ∷ l)
          (b.two.two.two.parts ∙ ap (λ (l : List Marked). b.two.two.two.front ++ l) b.two.two.two.two.none
          ∙ append-nil b.two.two.two.front))))

      goes : (vs : List Marked) (k : Code) → AreStatements d vs k →
          AreStatements d (word mark.If ∷
          (opens mark.OpenRound d ∷ (b.one.body ++ word mark.CloseRound ∷ (b.two.front ++ word mark.Else ∷ b.two.two.two.front)) ++ vs))
          (plain_code.If b.value b.two.value b.two.two.two.value k)
      goes vs k others =
          let F : List Marked → Type 0 =
          λ l. AreStatements d (word mark.If ∷ opens mark.OpenRound d ∷ l) (plain_code.If b.value b.two.value b.two.two.two.value k) in
          subst F (sym (append_assoc b.one.body (word mark.CloseRound ∷ (b.two.front ++ word mark.Else ∷ b.two.two.two.front)) vs
          ∙ ap (λ (l : List Marked). b.one.body ++ word mark.CloseRound ∷ l)
          (append_assoc b.two.front (word mark.Else ∷ b.two.two.two.front) vs)))
          (stmt.branches b.one.fits.spelled b.two.one b.two.two.two.one others)

  branch_told : Describes (r.branch n body) (λ us f. IsStatement d (word mark.If ∷ us) f)
  unfolding r.branch
  branch_told = weaken is_branch
      (bind guard_told (λ b. bind blocks (λ c. both (expect_told mark.Else) (bind blocks (λ e. give (plain_code.If b c e))))))

  is_loop : (us : List Marked) (f : Code → Code) → Both (Enclosed d mark.OpenRound mark.CloseRound (IsDisjunction (suc d)))
      (λ b. Both (IsBlock d) (λ c. Is (plain_code.While b c))) us f → IsStatement d (word mark.While ∷ us) f
  is_loop us f b = same_statement d (s.Mark mark.While) (opens mark.OpenRound d ∷ (b.one.body ++ word mark.CloseRound ∷ b.two.front)) us
      (plain_code.While b.value b.two.value) f line b.two.two.same goes
    where
      line : us ≡ opens mark.OpenRound d ∷ (b.one.body ++ word mark.CloseRound ∷ b.two.front)
      line = b.parts ∙ ap (λ (l : List Marked). l ++ b.behind) b.one.split
          ∙ ap (λ (l : List Marked). opens mark.OpenRound d ∷ l) (append_assoc b.one.body (word mark.CloseRound ∷ []) b.behind
          ∙ ap (λ (l : List Marked). b.one.body ++ word mark.CloseRound ∷ l)
          (b.two.parts ∙ ap (λ (l : List Marked). b.two.front ++ l) b.two.two.none ∙ append-nil b.two.front))

      goes : (vs : List Marked) (k : Code) → AreStatements d vs k →
          AreStatements d (word mark.While ∷ (opens mark.OpenRound d ∷ (b.one.body ++ word mark.CloseRound ∷ b.two.front) ++ vs))
          (plain_code.While b.value b.two.value k)
      goes vs k others =
          let F : List Marked → Type 0 =
          λ l. AreStatements d (word mark.While ∷ opens mark.OpenRound d ∷ l) (plain_code.While b.value b.two.value k) in
          subst F (sym (append_assoc b.one.body (word mark.CloseRound ∷ b.two.front) vs)) (stmt.loops b.one.fits.spelled b.two.one others)

  loop_told : Describes (r.repeated n body) (λ us f. IsStatement d (word mark.While ∷ us) f)
  unfolding r.repeated
  loop_told = weaken is_loop (bind guard_told (λ b. bind blocks (λ c. give (plain_code.While b c))))

  some_statement : Possible (IsStatement d)
  some_statement = possibly-behind (word mark.Skip) nothing_told.possible

  at_while : (m : Mark) (b : Bool) → sameb the_type m mark.While ≡ b →
      DescribesAt (Some (s.Mark m)) (if b then skip >> r.repeated n body else refuse Expected) (IsStatement d)
  at_while m false e = refused_at (IsStatement d) some_statement (Some (s.Mark m))
  at_while m true e = at_mark (IsStatement d) m mark.While e loop_told

  at_if : (m : Mark) (b : Bool) → sameb the_type m mark.If ≡ b →
      DescribesAt (Some (s.Mark m))
      (if b then skip >> r.branch n body else (if sameb the_type m mark.While then skip >> r.repeated n body else refuse Expected))
      (IsStatement d)
  at_if m false e = at_while m (sameb the_type m mark.While) refl
  at_if m true e = at_mark (IsStatement d) m mark.If e branch_told

  at_question : (m : Mark) (b : Bool) → sameb the_type m mark.Question ≡ b →
      DescribesAt (Some (s.Mark m))
      (if b then skip >> r.hole else
      (if sameb the_type m mark.If then skip >> r.branch n body else
      (if sameb the_type m mark.While then skip >> r.repeated n body else refuse Expected))) (IsStatement d)
  at_question m false e = at_if m (sameb the_type m mark.If) refl
  at_question m true e = at_mark (IsStatement d) m mark.Question e hole_told

  at_skip : (m : Mark) (b : Bool) → sameb the_type m mark.Skip ≡ b →
      DescribesAt (Some (s.Mark m))
      (if b then skip >> r.nothing else
      (if sameb the_type m mark.Question then skip >> r.hole else
      (if sameb the_type m mark.If then skip >> r.branch n body else
      (if sameb the_type m mark.While then skip >> r.repeated n body else refuse Expected)))) (IsStatement d)
  at_skip m false e = at_question m (sameb the_type m mark.Question) refl
  at_skip m true e = at_mark (IsStatement d) m mark.Skip e nothing_told

  pub statement_told : Describes (r.statement n body) (IsStatement d)
  unfolding r.statement
  statement_told = choose some_statement by
    where
      by : (o : Option Symbol) → DescribesAt o (r.statement_by n body o) (IsStatement d)
      by None = refused_at (IsStatement d) some_statement None
      by (Some (s.Mark m)) = at_skip m (sameb the_type m mark.Skip) refl
      by (Some (s.Number z)) = refused_at (IsStatement d) some_statement (Some (s.Number z))
      by (Some (s.Name x)) = after (s.Name x) (λ us f i. i) (changed_told x)

-- what statements add to those before
pub record StatementsBehind (before : Code → Code) (us : List Marked) (last : Code → Code) (d : ℕ) (vs : List Marked) (k : Code) : Type
    0 where
  pub code : Code
  pub same : last k ≡ before code
  pub statements : AreStatements d (us ++ vs) code

statements_behind : (d : ℕ) {before last : Code → Code} {us : List Marked} → Gathers (IsStatement d) r.with_statement before us last →
    (vs : List Marked) (k : Code) → AreStatements d vs k → StatementsBehind before us last d vs k
statements_behind d (none before) vs k others = record { code = k; same = refl; statements = others }
statements_behind d (more {us = us} {vs = ws} {x = f} {before = before} {last = last} p rest) vs k others =
    one_more (statements_behind d rest vs k others)
  where
    one_more : StatementsBehind (r.with_statement before f) ws last d vs k → StatementsBehind before (us ++ ws) last d vs k
    one_more n =
        let F : List Marked → Type 0 = λ l. AreStatements d l (f n.code) in
        record {
          code = f n.code;
          same = n.same;
          statements = subst F (sym (append_assoc us ws vs))
              (p.goes (ws ++ vs) n.code n.statements);
        }

are_statements : (d : ℕ) (us : List Marked) (c : Code) →
    Both (Gathers (IsStatement d) r.with_statement (λ k. k)) (λ front. Is (front plain_code.End)) us c → AreStatements d us c
are_statements d us c b =
    let n = statements_behind d b.one [] plain_code.End (stmt.none d) in
    let F : Code → Type 0 = λ x. AreStatements d b.front x in
    let G : List Marked → Type 0 = λ l. AreStatements d l n.code in
    made (λ l y. AreStatements d l y) b.front us (b.value plain_code.End) c (b.parts ∙ ap (λ (l : List Marked). b.front ++ l) b.two.none
    ∙ append-nil b.front) b.two.same (subst F (sym n.same) (subst G (append-nil b.front) n.statements))

statements_told : (n d : ℕ) → d + n ≡ 64 → (body : Parser Code) → Describes body (IsBlock d) →
    Describes (r.statements n body) (AreStatements d)
unfolding r.statements r.more_statements
statements_told n d e body blocks =
    weaken (are_statements d)
    (bind (gathered r.begins_statement (r.statement n body) r.with_statement (IsStatement d) (statement_told n d e body blocks)
    (λ us f i. i.some) (λ k. k)) (λ front. give (front plain_code.End)))

is_block : (d : ℕ) (us : List Marked) (c : Code) → Enclosed d mark.OpenCurly mark.CloseCurly (AreStatements (suc d)) us c → IsBlock d us c
is_block d us c e = let F : List Marked → Type 0 = λ l. IsBlock d l c in subst F (sym e.split) (stmt.block e.fits)

pub braced_told : (d : ℕ) (deeper : Option (Parser Code)) → Inner deeper (AreStatements (suc d)) d → Describes (r.braced deeper) (IsBlock d)
unfolding r.braced
braced_told d deeper i = weaken (is_block d) (grouped_told deeper (AreStatements (suc d)) d mark.OpenCurly mark.CloseCurly i)

-- the rule inside a block
pub inner_block_told : (n d : ℕ) → d + n ≡ 64 → Inner (r.inner_block n) (AreStatements (suc d)) d
unfolding r.inner_block
inner_block_told zero d e = (record { list = []; value = plain_code.End; fits = stmt.none (suc d) }, deep d e)
inner_block_told (suc n) d e = (
  statements_told n (suc d) (omega (arith, e)) (r.braced (r.inner_block n))
      (braced_told (suc d) (r.inner_block n) (inner_block_told n (suc d) (omega (arith, e)))),
  shallow d n e,
)

pub block_told : (n d : ℕ) → d + n ≡ 64 → Describes (r.block n) (IsBlock d)
unfolding r.block
block_told n d e = braced_told d (r.inner_block n) (inner_block_told n d e)
