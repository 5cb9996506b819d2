-- Where the curly braces of a block close: all that the grammar spells between them is balanced, so a block ends at the brace
-- that closes its first, and no rule stops at the end of tokens that do so.
use Rattle.sm_text.proofs.Imports.{◌≡◌, ℕ, ℤ, zero, suc, ◌+◌, ◌-◌, ◌<◌, ◌≤◌, Bool, true, false, refl, sym, ap, ◌∙◌, subst, arith, Option, Some, None, Result, Ok, Err, List, [], ◌∷◌, ◌++◌, map, length, take, append_assoc, cond, true≢false, length-take-le, take-take, sum_by-cons, count_by, position_or_len, bytes_eq, Marked, plain, word, opens, Symbol, Mark, Level, IsExpression, Rank, IsCondition, AreStatements, IsBlock, text_of, mark_or, symbol_by, names_after, Expression, Condition, Code, Cmp, Table, entry, mark_of_sign, TokenKind, Word, Number, Sign, token_symbols, is_mark, is_sign, many, IsGroup, first, sign_by}
use Rattle.std.proofs.lemmas.List.{append-nil}
use Rattle.std.specs.Prelude.{find, option_map}
use denote.Enum.Bare.{sameb, same_true}
use Rattle.sm_syntax.specs.contracts.symbol.Mark.{the_type}
use Rattle.sm_syntax.specs.declared.symbol.Mark.TheVariants as mark
use Rattle.sm_syntax.specs.declared.symbol.Symbol.TheVariants as s
use Rattle.sm_syntax.specs.declared.tree.Name.{Name}
use Rattle.sm_syntax.specs.text.ExpressionGrammar as exp
use Rattle.sm_syntax.specs.text.ConditionGrammar as cond
use Rattle.sm_syntax.specs.text.StatementGrammar as stmt
use Rattle.sm_syntax.specs.text.Symbols.{symbol_of}
use Rattle.sm_syntax.specs.text.Tokens.{mark_of_word, reserved_words}
use Rattle.sm_syntax.specs.declared.token.Token.{Token}
use Rattle.sm_text.specs.rules.Parsers.{fault, Fault}
use Rattle.sm_text.specs.rules.Reading as r
use Rattle.sm_text.proofs.Sound.Conditions.{each_comparison}
use Rattle.sm_text.proofs.Prefix.FirstTokens.{none_left}
use Rattle.sm_text.proofs.Prefix.Exact.{any_block_told, block_reads}
use Rattle.sm_text.proofs.Sound.Parsers.{Stops, Told}

-- whether a symbol opens a block, and whether it closes one
abbrev begins_block : Symbol → Bool
begins_block (s.Mark m) = sameb the_type m mark.OpenCurly
begins_block (s.Number z) = false
begins_block (s.Name x) = false

abbrev ends_block : Symbol → Bool
ends_block (s.Mark m) = sameb the_type m mark.CloseCurly
ends_block (s.Number z) = false
ends_block (s.Name x) = false

-- how many braces are open after a symbol
abbrev one_less : ℕ → ℕ
one_less zero = zero
one_less (suc n) = n

abbrev depth_by : Bool → Bool → ℕ → ℕ
depth_by true closing n = suc n
depth_by false true n = one_less n
depth_by false false n = n

abbrev depth_after : ℕ → Symbol → ℕ
depth_after n t = depth_by (begins_block t) (ends_block t) n

abbrev stop_at : ℕ → List Marked → Option (List Marked) → Option (List Marked)
stop_at zero ts more = Some ts
stop_at (suc n) ts more = more

-- what stands after the first symbol that leaves no brace open, where n are open before
abbrev behind : ℕ → List Marked → Option (List Marked)
behind n [] = None
behind n (t ∷ ts) = stop_at (depth_after n t.0) ts (behind (depth_after n t.0) ts)

-- the braces among the symbols close as they open
record IsBalanced (us : List Marked) : Type 0 where
  passes : (n : ℕ) (z : List Marked) → behind (suc n) (us ++ z) ≡ behind (suc n) z

nothing : IsBalanced []
nothing = record { passes = λ n z. refl }

-- a symbol that is no brace
one : (t : Marked) (us : List Marked) → begins_block t.0 ≡ false → ends_block t.0 ≡ false → IsBalanced us → IsBalanced (t ∷ us)
one t us opening closing more = record {
  passes = λ n z.
      let same : depth_after (suc n) t.0 ≡ suc n =
      ap (λ (b : Bool). depth_by b (ends_block t.0) (suc n)) opening ∙ ap (λ (b : Bool). depth_by false b (suc n)) closing in
      ap (λ (k : ℕ). stop_at k (us ++ z) (behind k (us ++ z))) same ∙ more.passes n z;
}

both : (us vs : List Marked) → IsBalanced us → IsBalanced vs → IsBalanced (us ++ vs)
both us vs first second =
    record { passes = λ n z. ap (behind (suc n)) (append_assoc us vs z) ∙ first.passes n (vs ++ z) ∙ second.passes n z }

comparison_opens : (op : Cmp) → begins_block (s.Mark (cond.comparison op)) ≡ false
comparison_opens = each_comparison (λ m. begins_block (s.Mark m) ≡ false) refl refl refl refl refl refl

comparison_closes : (op : Cmp) → ends_block (s.Mark (cond.comparison op)) ≡ false
comparison_closes = each_comparison (λ m. ends_block (s.Mark m) ≡ false) refl refl refl refl refl refl

expression_balanced : {l : Level} {d k : ℕ} {ts : List Marked} {e : Expression} → IsExpression l d k ts e → IsBalanced ts
expression_balanced (exp.number d z) = one _ _ refl refl nothing
expression_balanced (exp.variable d x) = one _ _ refl refl nothing
expression_balanced (exp.element {ts = ts} a inner) =
    one _ _ refl refl (one _ _ refl refl (both ts _ (expression_balanced inner) (one _ _ refl refl nothing)))
expression_balanced (IsExpression.group {ts = ts} inner) =
    one _ _ refl refl (both ts _ (expression_balanced inner) (one _ _ refl refl nothing))
expression_balanced (exp.negative inner) = one _ _ refl refl (expression_balanced inner)
expression_balanced (exp.as_unary inner) = expression_balanced inner
expression_balanced (exp.as_product inner) = expression_balanced inner
expression_balanced (exp.times {ts = ts} left right) = both ts _ (expression_balanced left) (one _ _ refl refl (expression_balanced right))
expression_balanced (exp.as_sum inner) = expression_balanced inner
expression_balanced (exp.plus {ts = ts} left right) = both ts _ (expression_balanced left) (one _ _ refl refl (expression_balanced right))
expression_balanced (exp.minus {ts = ts} left right) = both ts _ (expression_balanced left) (one _ _ refl refl (expression_balanced right))

condition_balanced : {r : Rank} {d k : ℕ} {ts : List Marked} {b : Condition} → IsCondition r d k ts b → IsBalanced ts
condition_balanced (cond.always d) = one _ _ refl refl nothing
condition_balanced (cond.never d) = one _ _ refl refl nothing
condition_balanced (cond.compares {ts = ts} op left right) =
    both ts _ (expression_balanced left) (one _ _ (comparison_opens op) (comparison_closes op) (expression_balanced right))
condition_balanced (IsCondition.group {ts = ts} inner) =
    one _ _ refl refl (both ts _ (condition_balanced inner) (one _ _ refl refl nothing))
condition_balanced (cond.denied inner) = one _ _ refl refl (condition_balanced inner)
condition_balanced (cond.as_literal inner) = condition_balanced inner
condition_balanced (cond.as_conjunction inner) = condition_balanced inner
condition_balanced (IsCondition.both {ts = ts} left right) =
    both ts _ (condition_balanced left) (one _ _ refl refl (condition_balanced right))
condition_balanced (cond.as_disjunction inner) = condition_balanced inner
condition_balanced (cond.either {ts = ts} left right) = both ts _ (condition_balanced left) (one _ _ refl refl (condition_balanced right))

-- the braces of a block stand round what is balanced
braced : (d : ℕ) (ts : List Marked) → IsBalanced ts → (n : ℕ) (z : List Marked) →
    behind n ((opens mark.OpenCurly d ∷ (ts ++ word mark.CloseCurly ∷ [])) ++ z) ≡ stop_at n z (behind n z)
braced d ts inner n z = ap (behind (suc n)) (append_assoc ts (word mark.CloseCurly ∷ []) z) ∙ inner.passes n (word mark.CloseCurly ∷ z)

mutual
  statements_balanced : {d : ℕ} {ts : List Marked} {c : Code} → AreStatements d ts c → IsBalanced ts
  statements_balanced (stmt.none d) = nothing
  statements_balanced (stmt.skips more) = one _ _ refl refl (one _ _ refl refl (statements_balanced more))
  statements_balanced (stmt.assigns {ts = ts} x value more) =
      one _ _ refl refl (one _ _ refl refl (both ts _ (expression_balanced value) (one _ _ refl refl (statements_balanced more))))
  statements_balanced (stmt.writes {ts = ts} {us = us} a index value more) =
      one _ _ refl refl (one _ _ refl refl
      (both ts _ (expression_balanced index)
      (one _ _ refl refl (one _ _ refl refl (both us _ (expression_balanced value) (one _ _ refl refl (statements_balanced more)))))))
  statements_balanced (stmt.branches {ts = ts} {us = us} {vs = vs} test first second more) =
      one _ _ refl refl (one _ _ refl refl
      (both ts _ (condition_balanced test)
      (one _ _ refl refl (both us _ (block_balanced first)
      (one _ _ refl refl (both vs _ (block_balanced second) (statements_balanced more)))))))
  statements_balanced (stmt.loops {ts = ts} {us = us} test body more) =
      one _ _ refl refl (one _ _ refl refl
      (both ts _ (condition_balanced test) (one _ _ refl refl (both us _ (block_balanced body) (statements_balanced more)))))
  statements_balanced (stmt.holes h fits more) = one _ _ refl refl (one _ _ refl refl (one _ _ refl refl (statements_balanced more)))

  block_balanced : {d : ℕ} {ts : List Marked} {c : Code} → IsBlock d ts c → IsBalanced ts
  block_balanced (stmt.block {d = d} {ts = ts} inner) = record { passes = λ n z. braced d ts (statements_balanced inner) (suc n) z }

-- a block ends at the brace that closes its first
block_ends : {d : ℕ} {ts : List Marked} {c : Code} → IsBlock d ts c → (z : List Marked) → behind 0 (ts ++ z) ≡ Some z
block_ends (stmt.block {d = d} {ts = ts} inner) z = braced d ts (statements_balanced inner) 0 z

-- no text of a table is this mark
abbrev AllBut : Mark → Table → Type 0
AllBut m [] = Unit {0}
AllBut m (e ∷ table) = (sameb the_type e.1 m ≡ false) × AllBut m table

no_entry : (m : Mark) (table : Table) (text : List ℕ) → AllBut m table → is_mark m (entry table text) ≡ false
no_entry m [] text none = refl
no_entry m (e ∷ table) text none = by (bytes_eq text e.0) (no_entry m table text none.1)
  where
    by : (b : Bool) → is_mark m (entry table text) ≡ false →
        is_mark m (option_map (λ (e : List ℕ × Mark). e.1) (cond b (Some e) (find (λ (e : List ℕ × Mark). bytes_eq text e.0) table))) ≡
        false
    by true more = none.0
    by false more = more

-- no reserved word is a brace
word_opens : (text : List ℕ) → is_mark mark.OpenCurly (mark_of_word text) ≡ false
unfolding mark_of_word reserved_words
word_opens text = no_entry mark.OpenCurly reserved_words text
    (refl, (refl, (refl, (refl, (refl, (refl, (refl, (refl, (refl, (refl, (refl, (refl, (refl, (refl, (refl, tt)))))))))))))))

word_closes : (text : List ℕ) → is_mark mark.CloseCurly (mark_of_word text) ≡ false
unfolding mark_of_word reserved_words
word_closes text = no_entry mark.CloseCurly reserved_words text
    (refl, (refl, (refl, (refl, (refl, (refl, (refl, (refl, (refl, (refl, (refl, (refl, (refl, (refl, (refl, tt)))))))))))))))

-- the symbol of a token is a mark that no reserved word is, where its sign is
sign_same : (m : Mark) (test : Symbol → Bool) → ((n : Mark) → test (s.Mark n) ≡ is_mark m (Some n)) →
    ((z : ℤ) → test (s.Number z) ≡ false) → ((x : Name) → test (s.Name x) ≡ false) →
    is_mark m (Some mark.Semicolon) ≡ false → ((text : List ℕ) → is_mark m (mark_of_word text) ≡ false) →
    (bytes : List ℕ) (names : List (List ℕ)) (t : Token) → test (symbol_of bytes names t) ≡ is_sign bytes m t
unfolding symbol_of
sign_same m test at_mark at_number at_name semicolon no_word bytes names t = by t.kind (text_of bytes t)
  where
    word_by : (o : Option Mark) (x : Name) → is_mark m o ≡ false → test (mark_or o (s.Name x)) ≡ false
    word_by None x e = at_name x
    word_by (Some n) x e = at_mark n ∙ e

    sign : (o : Option Mark) → test (mark_or o (s.Mark mark.Semicolon)) ≡ is_mark m o
    sign None = at_mark mark.Semicolon ∙ semicolon
    sign (Some n) = at_mark n

    by : (k : TokenKind) (text : List ℕ) → test (symbol_by k names text) ≡ is_mark m (sign_by k text)
    by Word text = word_by (mark_of_word text) (record { 0 = position_or_len (bytes_eq text) names }) (no_word text)
    by Number text = at_number _
    by Sign text = sign (mark_of_sign text)

opens_same : (bytes : List ℕ) (names : List (List ℕ)) (t : Token) → begins_block (symbol_of bytes names t) ≡ is_sign bytes mark.OpenCurly t
opens_same = sign_same mark.OpenCurly begins_block (λ n. refl) (λ z. refl) (λ x. refl) refl word_opens

closes_same : (bytes : List ℕ) (names : List (List ℕ)) (t : Token) → ends_block (symbol_of bytes names t) ≡ is_sign bytes mark.CloseCurly t
closes_same = sign_same mark.CloseCurly ends_block (λ n. refl) (λ z. refl) (λ x. refl) refl word_closes

-- no sign is both
one_brace : (o : Option Mark) → is_mark mark.OpenCurly o ≡ true → is_mark mark.CloseCurly o ≡ false
one_brace None h = refl
one_brace (Some m) h =
    let F : Mark → Type 0 = λ x. sameb the_type x mark.CloseCurly ≡ false in
    subst F (sym (same_true the_type tt m mark.OpenCurly h)) refl

goes_on : (n : ℕ) (ts : List Marked) (more : Option (List Marked)) → 0 < n → stop_at n ts more ≡ more
goes_on zero ts more some = absurd (omega (arith, some))
goes_on (suc n) ts more some = refl

-- the depth is as many more as open than close, where these are more
depth_is : (b c : Bool) (n : ℕ) → (b ≡ true → c ≡ false) → cond c 1 0 < n + cond b 1 0 → depth_by b c n + cond c 1 0 ≡ n + cond b 1 0
depth_is true true n apart more = absurd (true≢false (apart refl))
depth_is true false n apart more = omega arith
depth_is false true zero apart more = absurd (omega (arith, more))
depth_is false true (suc n) apart more = omega arith
depth_is false false n apart more = refl

depth_none : (b c : Bool) (n : ℕ) → (b ≡ true → c ≡ false) → n + cond b 1 0 ≤ cond c 1 0 → depth_by b c n ≡ 0
depth_none true true n apart few = absurd (true≢false (apart refl))
depth_none true false n apart few = absurd (omega (arith, few))
depth_none false true zero apart few = refl
depth_none false true (suc n) apart few = omega (arith, few)
depth_none false false n apart few = omega (arith, few)

module _ {T : Type 0} (f : T → Symbol) (p q : T → Bool) (p_is : (t : T) → begins_block (f t) ≡ p t)
    (q_is : (t : T) → ends_block (f t) ≡ q t) (apart : (t : T) → p t ≡ true → q t ≡ false) where
  depth_of : (n : ℕ) (t : T) → depth_after n (f t) ≡ depth_by (p t) (q t) n
  depth_of n t = ap (λ (b : Bool). depth_by b (ends_block (f t)) n) (p_is t) ∙ ap (λ (b : Bool). depth_by (p t) b n) (q_is t)

  count : (r : T → Bool) (t : T) (ts : List T) → count_by r (t ∷ ts) ≡ cond (r t) 1 0 + count_by r ts
  count r t ts = sum_by-cons (λ x. cond (r x) 1 0) t ts

  -- where more open than close up to the last of them, and no more at the end, they end a block
  group_ends : (us : List T) (n : ℕ) (ahead : List Marked) → 0 < length us →
      ((k : ℕ) → 0 < k → k < length us → count_by q (take k us) < n + count_by p (take k us)) → n + count_by p us ≤ count_by q us →
      behind n (map plain (map f us) ++ ahead) ≡ Some ahead
  group_ends [] n ahead some inside ends = absurd (omega (arith, some))
  group_ends (t ∷ []) n ahead some inside ends =
      let opening = count p t [] in
      let closing = count q t [] in
      let none : depth_after n (f t) ≡ 0 = depth_of n t ∙ depth_none (p t) (q t) n (apart t) (omega (arith, ends, opening, closing)) in
      ap (λ (k : ℕ). stop_at k ahead (behind k ahead)) none
  group_ends (t ∷ (u ∷ us)) n ahead some inside ends =
      let opening = count p t [] in
      let closing = count q t [] in
      let first = inside 1 (omega arith) (omega arith) in
      let more : cond (q t) 1 0 < n + cond (p t) 1 0 = omega (arith, first, opening, closing) in
      let here : depth_after n (f t) + cond (q t) 1 0 ≡ n + cond (p t) 1 0 =
      ap (λ (k : ℕ). k + cond (q t) 1 0) (depth_of n t) ∙ depth_is (p t) (q t) n (apart t) more in
      let rest = map plain (map f (u ∷ us)) ++ ahead in
      let d = depth_after n (f t) in
      goes_on d rest (behind d rest) (omega (arith, here, more)) ∙
      group_ends (u ∷ us) d ahead (omega arith)
      (λ (k : ℕ) (some_k : 0 < k) (few : k < length (u ∷ us)).
      let at = inside (suc k) (omega arith) (omega (arith, few)) in
      let open_k = count p t (take k (u ∷ us)) in
      let close_k = count q t (take k (u ∷ us)) in
      omega (arith, at, open_k, close_k, here))
      (let open_all = count p t (u ∷ us) in let close_all = count q t (u ∷ us) in omega (arith, ends, open_all, close_all, here))

some_same : (us vs : List Marked) → Some us ≡ Some vs → us ≡ vs
some_same us vs e = cc

ok_not_err : (x : Code × List Symbol) (f : Fault) → (let a : Result (Code × List Symbol) Fault = Ok x in a) ≡ Err f → ⊥
ok_not_err x f e = cc

-- where tokens end with the brace that closes the first, and others stand after them, no block is refused at their end
pub none_at_end : (bytes : List ℕ) (before : List (List ℕ)) (groups m : ℕ) (ts : List Token) → IsGroup bytes ts m → m < length ts →
    (f : Fault) → r.block (64 - groups) (token_symbols bytes before (take m ts)) ≡ Err f → f.left ≡ 0 → ⊥
none_at_end bytes before groups m ts group less f e none =
    let us = take m ts in
    let ss = token_symbols bytes before us in
    let p = r.block (64 - groups) in
    let F : Result (Code × List Symbol) Fault → Type 0 = λ a. Told p (IsBlock groups) ss a in
    let k : Stops p (IsBlock groups) ss f = subst F e ((any_block_told groups).tells ss) in
    let empty : k.here ≡ [] = none_left k.here (sym (ap (λ (g : Fault). g.left) k.place) ∙ none) in
    let used : ss ≡ k.used = k.split ∙ ap (λ (l : List Symbol). k.used ++ l) empty ∙ append-nil k.used in
    let size = length-take-le m ts group.within in
    let names = names_after bytes before us in
    let inside : (j : ℕ) → 0 < j → j < length us → many bytes mark.CloseCurly (take j us) < 0 + many bytes mark.OpenCurly (take j us) =
    λ j some few.
    let same : take j us ≡ take j ts = take-take j m ts (omega (arith, few, size)) in
    let P : List Token → Type 0 = λ l. many bytes mark.CloseCurly l < 0 + many bytes mark.OpenCurly l in
    let here = group.inside j some (omega (arith, few, size)) in
    subst P (sym same) (omega (arith, here)) in
    let closed : behind 0 (map plain ss ++ k.ahead) ≡ Some k.ahead =
    group_ends (symbol_of bytes names) (is_sign bytes mark.OpenCurly) (is_sign bytes mark.CloseCurly) (opens_same bytes names)
    (closes_same bytes names) (λ t. one_brace (sign_by t.kind (text_of bytes t)))
    us 0 k.ahead (let begun = group.begun (omega (arith, less)) in omega (arith, size, begun)) inside
    (let ends = group.ends less in omega (arith, ends)) in
    let whole : behind 0 (map plain k.used ++ k.ahead) ≡ Some [] =
    ap (behind 0) (sym (append-nil (map plain k.used ++ k.ahead))) ∙ block_ends k.goes_on [] in
    let nothing_more : k.ahead ≡ [] =
    some_same k.ahead [] (sym closed ∙ ap (λ (l : List Symbol). behind 0 (map plain l ++ k.ahead)) used ∙ whole) in
    let G : List Marked → Type 0 = λ l. IsBlock groups l k.value in
    let spelled : IsBlock groups (map plain k.used) k.value =
    subst G (ap (λ (l : List Marked). map plain k.used ++ l) nothing_more ∙ append-nil (map plain k.used)) k.goes_on in
    ok_not_err (k.value, []) (fault f.kind []) (sym (block_reads groups k.used k.value spelled []) ∙ k.again [] (ap first (sym empty)))
