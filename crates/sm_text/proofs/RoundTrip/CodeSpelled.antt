-- The grammar spells code by its canonical symbols.
use Rattle.sm_text.proofs.Imports.{◌≡◌, ℕ, suc, ◌+◌, ◌<◌, ◌≤◌, Bool, true, false, max, List, [], ◌∷◌, ◌++◌, map, refl, sym, ap, subst, ◌∙◌, append_assoc, arith, nat_tests, Expression, Lit, Var, Read, Neg, Plus, Minus, Times, Condition, Yes, No, Compare, Not, And, Or, Code, End, Skip, Assign, Write, If, While, Hole, expression_depth, condition_depth, Marked, plain, opens, joins, Mark, Atom, Unary, IsExpression, comparison, Test, Literal, IsCondition, IsHoleNumber, AreStatements, IsBlock, symbols_in, mark_piece, name_piece, line_end, deeper, line, between, is_atom, operand, element_pieces, expression_pieces, is_test, part, condition_pieces, code_pieces}
use Rattle.std.proofs.Common.{nat_le}
use Rattle.sm_syntax.specs.declared.symbol.Mark.TheVariants as mark
use Rattle.sm_syntax.specs.declared.symbol.Symbol.TheVariants as s
use Rattle.sm_syntax.specs.text.MarkedSymbols as g
use Rattle.sm_syntax.specs.text.ExpressionGrammar as exp
use Rattle.sm_syntax.specs.text.ConditionGrammar as cond
use Rattle.sm_syntax.specs.text.StatementGrammar as stmt
use Rattle.sm_syntax.specs.text.ExpressionGrammar.{Product, Sum}
use Rattle.sm_syntax.specs.text.ConditionGrammar.{Conjunction, Disjunction}
use Rattle.sm_text.specs.printing.Pieces.{Piece, Token, Gap, space}
use Rattle.sm_text.specs.printing.Canonical.{braces, branches, guard_pieces}

-- the symbols of pieces, none of which nests too deep
abbrev pub marked : List Piece → List Marked
marked ps = map plain (symbols_in ps)

pub marked-append : (ps qs : List Piece) → marked (ps ++ qs) ≡ marked ps ++ marked qs
marked-append [] qs = refl
marked-append (Token t ∷ ps) qs = ap (λ (l : List Marked). plain t ∷ l) (marked-append ps qs)
marked-append (Gap bytes ∷ ps) qs = marked-append ps qs

-- pieces before pieces, before more symbols
pub marked_then : (ps qs : List Piece) (us : List Marked) → marked (ps ++ qs) ++ us ≡ marked ps ++ (marked qs ++ us)
marked_then ps qs us = ap (λ (l : List Marked). l ++ us) (marked-append ps qs) ∙ append_assoc (marked ps) (marked qs) us

-- a line before more pieces
pub marked-line : (margin : List ℕ) (ps qs : List Piece) → marked (line margin ps ++ qs) ≡ marked ps ++ marked qs
marked-line margin ps qs =
    marked-append (ps ++ line_end ∷ []) qs ∙ marked_then ps (line_end ∷ []) (marked qs)

-- a sign that opens a group where fewer than 64 are open
pub opens_is : (m : Mark) (d : ℕ) → d < 64 → opens m d ≡ plain (s.Mark m)
opens_is m d few =
    let narrow : nat_le 64 d ≡ false = grind (arith, nat_tests) in
    ap (λ (b : Bool). (s.Mark m, b)) narrow

-- a group of pieces between two signs
grouped : (first last : Mark) (d : ℕ) (ps : List Piece) → d < 64 →
    opens first d ∷ (marked ps ++ g.word last ∷ []) ≡ marked (mark_piece first ∷ (ps ++ mark_piece last ∷ []))
grouped first last d ps few =
    ap (λ (t : Marked). t ∷ (marked ps ++ g.word last ∷ [])) (opens_is first d few) ∙
    ap (λ (l : List Marked). plain (s.Mark first) ∷ l) (sym (marked-append ps (mark_piece last ∷ [])))

-- how many reads stand in each other
abbrev pub reads : Expression → ℕ
reads (Lit z) = 0
reads (Var x) = 0
reads (Read a i) = 1 + reads i
reads (Neg e) = reads e
reads (Plus d e) = max (reads d) (reads e)
reads (Minus d e) = max (reads d) (reads e)
reads (Times d e) = max (reads d) (reads e)

-- where d groups are open, an expression's canonical symbols nest nowhere too deep
pub record Fits (d : ℕ) (e : Expression) : Type 0 where
  pub depth : d + expression_depth e ≤ 66
  pub reads : d + reads e ≤ 64

pub reads-depth : (e : Expression) → reads e + 1 ≤ expression_depth e
reads-depth (Lit z) = omega arith
reads-depth (Var x) = omega arith
reads-depth (Read a i) = omega (arith, reads-depth i)
reads-depth (Neg e) = omega (arith, reads-depth e)
reads-depth (Plus d e) = omega (arith, reads-depth d, reads-depth e)
reads-depth (Minus d e) = omega (arith, reads-depth d, reads-depth e)
reads-depth (Times d e) = omega (arith, reads-depth d, reads-depth e)

-- what isn't an atom is deeper
pub reads-compound : (e : Expression) → is_atom e ≡ false → reads e + 2 ≤ expression_depth e
reads-compound (Lit z) h = cc
reads-compound (Var x) h = cc
reads-compound (Read a i) h = cc
reads-compound (Neg e) h = omega (arith, reads-depth e)
reads-compound (Plus d e) h = omega (arith, reads-depth d, reads-depth e)
reads-compound (Minus d e) h = omega (arith, reads-depth d, reads-depth e)
reads-compound (Times d e) h = omega (arith, reads-depth d, reads-depth e)

-- the grammar spells the expression by its canonical symbols
pub record IsShown (d : ℕ) (e : Expression) : Type 0 where
  pub chain : ℕ
  pub sum : IsExpression Sum d chain (marked (expression_pieces e)) e
  pub atom : is_atom e ≡ true → IsExpression Atom d 0 (marked (expression_pieces e)) e

as_sum : {d : ℕ} {ts : List Marked} {e : Expression} → IsExpression Atom d 0 ts e → IsExpression Sum d 0 ts e
as_sum i = exp.as_sum (exp.as_product (exp.as_unary i))

as_product : {d : ℕ} {ts : List Marked} {e : Expression} → IsExpression Atom d 0 ts e → IsExpression Product d 0 ts e
as_product i = exp.as_product (exp.as_unary i)

-- an operand
operand_shown : (b : Bool) (e : Expression) (d : ℕ) → is_atom e ≡ b → 1 + d + expression_depth e ≤ 66 → d + reads e ≤ 64 →
    ((j : ℕ) → Fits j e → IsShown j e) →
    IsExpression Atom d 0 (marked (operand b (expression_pieces e))) e
operand_shown true e d is depth read shows = (shows d (record { depth = omega arith; reads = read })).atom is
operand_shown false e d is depth read shows =
    let deep = reads-compound e is in
    let F : List Marked → Type 0 = λ l. IsExpression Atom d 0 l e in
    let inner = shows (suc d) (record { depth = omega arith; reads = omega (arith, deep) }) in
    subst F (grouped mark.OpenRound mark.CloseRound d (expression_pieces e) (omega (arith, deep))) (exp.group inner.sum)

-- two parts with an operator between them
marked-between : (ps : List Piece) (m : Mark) (qs : List Piece) → marked (between ps m qs) ≡ marked ps ++ g.word m ∷ marked qs
marked-between ps m qs = marked-append ps (space ∷ mark_piece m ∷ space ∷ qs)

-- an expression of two operands with an operator between them
operands_shown : (m : Mark) (whole e f : Expression) (d k : ℕ) → is_atom whole ≡ false →
    expression_pieces whole ≡ between (operand (is_atom e) (expression_pieces e)) m (operand (is_atom f) (expression_pieces f)) →
    ((ts us : List Marked) → IsExpression Atom d 0 ts e → IsExpression Atom d 0 us f → IsExpression Sum d k (ts ++ g.word m ∷ us) whole) →
    1 + d + expression_depth e ≤ 66 → d + reads e ≤ 64 → 1 + d + expression_depth f ≤ 66 → d + reads f ≤ 64 →
    ((j : ℕ) → Fits j e → IsShown j e) → ((j : ℕ) → Fits j f → IsShown j f) → IsShown d whole
operands_shown m whole e f d k compound pieces join deep_e reads_e deep_f reads_f shown_e shown_f =
    let ps = operand (is_atom e) (expression_pieces e) in
    let qs = operand (is_atom f) (expression_pieces f) in
    let F : List Marked → Type 0 = λ l. IsExpression Sum d k l whole in
    record {
      chain = k;
      sum = subst F (sym (ap marked pieces ∙ marked-between ps m qs))
          (join (marked ps) (marked qs) (operand_shown (is_atom e) e d refl deep_e reads_e shown_e)
          (operand_shown (is_atom f) f d refl deep_f reads_f shown_f));
      atom = λ h. cc;
    }

pub shown : (e : Expression) (d : ℕ) → Fits d e → IsShown d e
shown (Lit z) d fits = record { chain = 0; sum = as_sum (exp.number d z); atom = λ _. exp.number d z }
shown (Var x) d fits = record { chain = 0; sum = as_sum (exp.variable d (record { 0 = x })); atom = λ _. exp.variable d (record { 0 = x }) }
shown (Read a i) d fits =
    let inner = shown i (suc d) (record { depth = omega (arith, fits.depth); reads = omega (arith, fits.reads) }) in
    let F : List Marked → Type 0 = λ l. IsExpression Atom d 0 (plain (s.Name (record { 0 = a })) ∷ l) (Read a i) in
    let it = subst F (grouped mark.OpenSquare mark.CloseSquare d (expression_pieces i) (omega (arith, fits.reads)))
    (exp.element (record { 0 = a }) inner.sum) in
    record { chain = 0; sum = as_sum it; atom = λ _. it }
shown (Neg e) d fits =
    let part = operand_shown (is_atom e) e d refl (omega (arith, fits.depth)) fits.reads (shown e) in
    record { chain = 0; sum = exp.as_sum (exp.as_product (exp.negative part)); atom = λ h. cc }
shown (Plus e f) d fits =
    operands_shown mark.Plus (Plus e f) e f d 1 refl refl (λ ts us a b. exp.plus (as_sum a) (as_product b)) (omega (arith, fits.depth))
    (omega (arith, fits.reads)) (omega (arith, fits.depth)) (omega (arith, fits.reads)) (shown e) (shown f)
shown (Minus e f) d fits =
    operands_shown mark.Minus (Minus e f) e f d 1 refl refl (λ ts us a b. exp.minus (as_sum a) (as_product b)) (omega (arith, fits.depth))
    (omega (arith, fits.reads)) (omega (arith, fits.depth)) (omega (arith, fits.reads)) (shown e) (shown f)
shown (Times e f) d fits =
    operands_shown mark.Star (Times e f) e f d 0 refl refl (λ ts us a b. exp.as_sum (exp.times (as_product a) (exp.as_unary b)))
    (omega (arith, fits.depth)) (omega (arith, fits.reads)) (omega (arith, fits.depth)) (omega (arith, fits.reads)) (shown e) (shown f)

-- how many reads stand in each other, in a condition
abbrev pub reads_tested : Condition → ℕ
reads_tested Yes = 0
reads_tested No = 0
reads_tested (Compare op d e) = max (reads d) (reads e)
reads_tested (Not b) = reads_tested b
reads_tested (And b c) = max (reads_tested b) (reads_tested c)
reads_tested (Or b c) = max (reads_tested b) (reads_tested c)

-- where d groups are open, a condition's canonical symbols nest nowhere too deep
pub record FitsTest (d : ℕ) (b : Condition) : Type 0 where
  pub depth : d + condition_depth b ≤ 66
  pub reads : d + reads_tested b ≤ 64

pub reads_tested-depth : (b : Condition) → reads_tested b + 1 ≤ condition_depth b
reads_tested-depth Yes = omega arith
reads_tested-depth No = omega arith
reads_tested-depth (Compare op d e) = omega (arith, reads-depth d, reads-depth e)
reads_tested-depth (Not b) = omega (arith, reads_tested-depth b)
reads_tested-depth (And b c) = omega (arith, reads_tested-depth b, reads_tested-depth c)
reads_tested-depth (Or b c) = omega (arith, reads_tested-depth b, reads_tested-depth c)

pub reads_tested-compound : (b : Condition) → is_test b ≡ false → reads_tested b + 2 ≤ condition_depth b
reads_tested-compound Yes h = cc
reads_tested-compound No h = cc
reads_tested-compound (Compare op d e) h = cc
reads_tested-compound (Not b) h = omega (arith, reads_tested-depth b)
reads_tested-compound (And b c) h = omega (arith, reads_tested-depth b, reads_tested-depth c)
reads_tested-compound (Or b c) h = omega (arith, reads_tested-depth b, reads_tested-depth c)

-- the grammar spells the condition by its canonical symbols
pub record IsTold (d : ℕ) (b : Condition) : Type 0 where
  pub chain : ℕ
  pub whole : IsCondition Disjunction d chain (marked (condition_pieces b)) b
  pub test : is_test b ≡ true → IsCondition Test d 0 (marked (condition_pieces b)) b

as_whole : {d : ℕ} {ts : List Marked} {b : Condition} → IsCondition Test d 0 ts b → IsCondition Disjunction d 0 ts b
as_whole i = cond.as_disjunction (cond.as_conjunction (cond.as_literal i))

-- a part of a condition
part_told : (t : Bool) (b : Condition) (d : ℕ) → is_test b ≡ t → 1 + d + condition_depth b ≤ 66 → d + reads_tested b ≤ 64 →
    ((j : ℕ) → FitsTest j b → IsTold j b) →
    IsCondition Test d 0 (marked (part t (condition_pieces b))) b
part_told true b d is depth read tells = (tells d (record { depth = omega arith; reads = read })).test is
part_told false b d is depth read tells =
    let deep = reads_tested-compound b is in
    let F : List Marked → Type 0 = λ l. IsCondition Test d 0 l b in
    let inner = tells (suc d) (record { depth = omega arith; reads = omega (arith, deep) }) in
    subst F (grouped mark.OpenSquare mark.CloseSquare d (condition_pieces b) (omega (arith, deep))) (cond.group inner.whole)

-- a condition of two parts with an operator between them
parts_told : (m : Mark) (whole b c : Condition) (d k : ℕ) → is_test whole ≡ false →
    condition_pieces whole ≡ between (part (is_test b) (condition_pieces b)) m (part (is_test c) (condition_pieces c)) →
    ((ts us : List Marked) → IsCondition Test d 0 ts b → IsCondition Test d 0 us c →
    IsCondition Disjunction d k (ts ++ g.word m ∷ us) whole) →
    1 + d + condition_depth b ≤ 66 → d + reads_tested b ≤ 64 → 1 + d + condition_depth c ≤ 66 → d + reads_tested c ≤ 64 →
    ((j : ℕ) → FitsTest j b → IsTold j b) → ((j : ℕ) → FitsTest j c → IsTold j c) → IsTold d whole
parts_told m whole b c d k compound pieces join deep_b reads_b deep_c reads_c told_b told_c =
    let ps = part (is_test b) (condition_pieces b) in
    let qs = part (is_test c) (condition_pieces c) in
    let F : List Marked → Type 0 = λ l. IsCondition Disjunction d k l whole in
    record {
      chain = k;
      whole = subst F (sym (ap marked pieces ∙ marked-between ps m qs))
          (join (marked ps) (marked qs) (part_told (is_test b) b d refl deep_b reads_b told_b)
          (part_told (is_test c) c d refl deep_c reads_c told_c));
      test = λ h. cc;
    }

pub told : (b : Condition) (d : ℕ) → FitsTest d b → IsTold d b
told Yes d fits = record { chain = 0; whole = as_whole (cond.always d); test = λ _. cond.always d }
told No d fits = record { chain = 0; whole = as_whole (cond.never d); test = λ _. cond.never d }
told (Compare op e f) d fits =
    let left = shown e d (record { depth = omega (arith, fits.depth); reads = omega (arith, fits.reads) }) in
    let right = shown f d (record { depth = omega (arith, fits.depth); reads = omega (arith, fits.reads) }) in
    let F : List Marked → Type 0 = λ l. IsCondition Test d 0 l (Compare op e f) in
    let it = subst F (sym (marked-between (expression_pieces e) (comparison op) (expression_pieces f)))
    (cond.compares op left.sum right.sum) in
    record { chain = 0; whole = as_whole it; test = λ _. it }
told (Not b) d fits =
    let inner = part_told (is_test b) b d refl (omega (arith, fits.depth)) fits.reads (told b) in
    record { chain = 0; whole = cond.as_disjunction (cond.as_conjunction (cond.denied inner)); test = λ h. cc }
told (And b c) d fits = parts_told mark.Both (And b c) b c d 0 refl refl
    (λ ts us p q. cond.as_disjunction (cond.both (cond.as_conjunction (cond.as_literal p)) (cond.as_literal q))) (omega (arith, fits.depth))
    (omega (arith, fits.reads)) (omega (arith, fits.depth)) (omega (arith, fits.reads)) (told b) (told c)
told (Or b c) d fits = parts_told mark.Either (Or b c) b c d 1 refl refl
    (λ ts us p q. cond.either (as_whole p) (cond.as_conjunction (cond.as_literal q))) (omega (arith, fits.depth))
    (omega (arith, fits.reads)) (omega (arith, fits.depth)) (omega (arith, fits.reads)) (told b) (told c)

-- where d groups are open, the canonical symbols of code nest nowhere too deep, and its holes have numbers
abbrev pub IsPrintable : ℕ → Code → Type 0
IsPrintable d End = Unit {0}
IsPrintable d (Skip k) = IsPrintable d k
IsPrintable d (Assign x e k) = Fits d e × IsPrintable d k
IsPrintable d (Write a i e k) = (d < 64) × Fits (suc d) i × Fits d e × IsPrintable d k
IsPrintable d (If b c e k) = (d < 64) × FitsTest (suc d) b × IsPrintable (suc d) c × IsPrintable (suc d) e × IsPrintable d k
IsPrintable d (While b c k) = (d < 64) × FitsTest (suc d) b × IsPrintable (suc d) c × IsPrintable d k
IsPrintable d (Hole h k) = IsHoleNumber h × IsPrintable d k

-- lines in braces
pub block_shown : (d : ℕ) (c : Code) (margin : List ℕ) (ps : List Piece) → d < 64 → AreStatements (suc d) (marked ps) c →
    IsBlock d (marked (braces margin ps)) c
unfolding braces
block_shown d c margin ps few inside =
    let F : List Marked → Type 0 = λ l. IsBlock d l c in
    let line : opens mark.OpenCurly d ∷ (marked ps ++ g.word mark.CloseCurly ∷ []) ≡ marked (braces margin ps) =
    ap (λ (t : Marked). t ∷ (marked ps ++ g.word mark.CloseCurly ∷ [])) (opens_is mark.OpenCurly d few) ∙
    ap (λ (l : List Marked). plain (s.Mark mark.OpenCurly) ∷ l) (sym (marked-append ps (Gap margin ∷ mark_piece mark.CloseCurly ∷ []))) in
    subst F line (stmt.block inside)

-- a guard before more symbols
marked-guard : (b : Condition) (d : ℕ) (us : List Marked) → d < 64 →
    opens mark.OpenRound d ∷ (marked (condition_pieces b) ++ g.word mark.CloseRound ∷ us) ≡ marked (guard_pieces b) ++ us
unfolding guard_pieces
marked-guard b d us few =
    ap (λ (t : Marked). t ∷ (marked (condition_pieces b) ++ g.word mark.CloseRound ∷ us)) (opens_is mark.OpenRound d few) ∙
    ap (λ (l : List Marked). plain (s.Mark mark.OpenRound) ∷ l)
    (sym (marked_then (condition_pieces b) (mark_piece mark.CloseRound ∷ space ∷ []) us))

-- two branches before more symbols
marked-branches : (ps qs : List Piece) (us : List Marked) →
    marked ps ++ g.word mark.Else ∷ (marked qs ++ us) ≡ marked (branches ps qs) ++ us
unfolding branches
marked-branches ps qs us = sym (marked_then ps (space ∷ mark_piece mark.Else ∷ space ∷ qs) us)

-- an element before more symbols
marked-element : (a d : ℕ) (ps : List Piece) (us : List Marked) → d < 64 →
    plain (s.Name (record { 0 = a })) ∷ opens mark.OpenSquare d ∷ (marked ps ++ g.word mark.CloseSquare ∷ us) ≡ marked
    (element_pieces a ps) ++ us
marked-element a d ps us few =
    ap (λ (t : Marked). plain (s.Name (record { 0 = a })) ∷ t ∷ (marked ps ++ g.word mark.CloseSquare ∷ us))
    (opens_is mark.OpenSquare d few) ∙
    ap (λ (l : List Marked). plain (s.Name (record { 0 = a })) ∷ plain (s.Mark mark.OpenSquare) ∷ l)
    (sym (marked_then ps (mark_piece mark.CloseSquare ∷ []) us))

-- the grammar spells the code by its canonical symbols
pub code_shown : (c : Code) (margin : List ℕ) (d : ℕ) → IsPrintable d c → AreStatements d (marked (code_pieces margin c)) c
code_shown End margin d fits = stmt.none d
code_shown (Skip k) margin d fits =
    stmt.skips (code_shown k margin d fits)
code_shown (Assign x e k) margin d fits =
    let ps = expression_pieces e in
    let us = marked (code_pieces margin k) in
    let F : List Marked → Type 0 = λ l. AreStatements d l (Assign x e k) in
    let front = name_piece x ∷ space ∷ mark_piece mark.Becomes ∷ space ∷ (ps ++ mark_piece mark.Semicolon ∷ []) in
    let line : plain (s.Name (record { 0 = x })) ∷ g.word mark.Becomes ∷ (marked ps ++ g.word mark.Semicolon ∷ us) ≡ marked
    (code_pieces margin (Assign x e k)) =
    ap (λ (l : List Marked). plain (s.Name (record { 0 = x })) ∷ g.word mark.Becomes ∷ l)
    (sym (marked_then ps (mark_piece mark.Semicolon ∷ []) us)) ∙
    sym (marked-line margin front (code_pieces margin k)) in
    subst F line (stmt.assigns (record { 0 = x }) (shown e d fits.0).sum (code_shown k margin d fits.1))
code_shown (Write a i e k) margin d fits =
    let ps = expression_pieces i in
    let qs = expression_pieces e in
    let us = marked (code_pieces margin k) in
    let F : List Marked → Type 0 = λ l. AreStatements d l (Write a i e k) in
    let value = space ∷ mark_piece mark.Becomes ∷ space ∷ (qs ++ mark_piece mark.Semicolon ∷ []) in
    let behind = g.word mark.Becomes ∷ (marked qs ++ g.word mark.Semicolon ∷ us) in
    let same : behind ≡ marked value ++ us =
    ap (λ (l : List Marked). g.word mark.Becomes ∷ l) (sym (marked_then qs (mark_piece mark.Semicolon ∷ []) us)) in
    let line : plain (s.Name (record { 0 = a })) ∷ opens mark.OpenSquare d ∷ (marked ps ++ g.word mark.CloseSquare ∷ behind) ≡ marked
    (code_pieces margin (Write a i e k)) =
    marked-element a d ps behind fits.0 ∙
    ap (λ (l : List Marked). marked (element_pieces a ps) ++ l) same ∙
    sym (marked_then (element_pieces a ps) value us) ∙
    sym (marked-line margin (element_pieces a ps ++ value) (code_pieces margin k)) in
    subst F line (stmt.writes (record { 0 = a }) (shown i (suc d) fits.1).sum (shown e d fits.2).sum (code_shown k margin d fits.3))
code_shown (If b c e k) margin d fits =
    let us = marked (code_pieces margin k) in
    let yes_lines = code_pieces (deeper margin) c in
    let no_lines = code_pieces (deeper margin) e in
    let choice = branches (braces margin yes_lines) (braces margin no_lines) in
    let behind = marked (braces margin yes_lines) ++ g.word mark.Else ∷ (marked (braces margin no_lines) ++ us) in
    let F : List Marked → Type 0 = λ l. AreStatements d l (If b c e k) in
    let line : g.word mark.If ∷ opens mark.OpenRound d ∷ (marked (condition_pieces b) ++ g.word mark.CloseRound ∷ behind) ≡ marked
    (code_pieces margin (If b c e k)) =
    ap (λ (l : List Marked). g.word mark.If ∷ l) (marked-guard b d behind fits.0 ∙
    ap (λ (l : List Marked). marked (guard_pieces b) ++ l) (marked-branches (braces margin yes_lines) (braces margin no_lines) us) ∙
    sym (marked_then (guard_pieces b) choice us)) ∙
    sym (marked-line margin (mark_piece mark.If ∷ space ∷ (guard_pieces b ++ choice)) (code_pieces margin k)) in
    let then = block_shown d c margin yes_lines fits.0 (code_shown c (deeper margin) (suc d) fits.2) in
    let other = block_shown d e margin no_lines fits.0 (code_shown e (deeper margin) (suc d) fits.3) in
    subst F line (stmt.branches (told b (suc d) fits.1).whole then other (code_shown k margin d fits.4))
code_shown (While b c k) margin d fits =
    let us = marked (code_pieces margin k) in
    let lines = code_pieces (deeper margin) c in
    let behind = marked (braces margin lines) ++ us in
    let F : List Marked → Type 0 = λ l. AreStatements d l (While b c k) in
    let line : g.word mark.While ∷ opens mark.OpenRound d ∷ (marked (condition_pieces b) ++ g.word mark.CloseRound ∷ behind) ≡ marked
    (code_pieces margin (While b c k)) =
    ap (λ (l : List Marked). g.word mark.While ∷ l) (marked-guard b d behind fits.0
    ∙ sym (marked_then (guard_pieces b) (braces margin lines) us)) ∙
    sym (marked-line margin (mark_piece mark.While ∷ space ∷ (guard_pieces b ++ braces margin lines)) (code_pieces margin k)) in
    let body = block_shown d c margin lines fits.0 (code_shown c (deeper margin) (suc d) fits.2) in
    subst F line (stmt.loops (told b (suc d) fits.1).whole body (code_shown k margin d fits.3))
code_shown (Hole h k) margin d fits =
    stmt.holes h fits.0 (code_shown k margin d fits.1)
