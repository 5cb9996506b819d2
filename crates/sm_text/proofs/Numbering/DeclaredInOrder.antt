-- The declared names of a task are numbered in order: each name that a text has is one from before, or has the next number.
use Rattle.sm_text.proofs.Imports.{◌≡◌, ◌⊎◌, inl, inr, ℕ, suc, ◌+◌, ◌<◌, ◌==◌, Bool, true, false, ◌||◌, not, Option, Some, None, is_some, List, [], ◌∷◌, ◌++◌, map, length, refl, sym, ap, ap₂, ◌∙◌, subst, arith, nat_tests, length_push, range_with_len, position_or_len, option_or, bytes_eq, Sort, Refusal, DoubleName, is_in, first_repeated, double_name, first_of_all, double_hole, hole_in_filling, unknown_hole, missing_filling, ill_assumed, Copy, O, A, B, M, fill, Marked, plain, Symbol, Mark, Semicolon, AreNames, AreDeclarations, IsTask, with_sort, Parts, text_of, is_among, with_text, names_after, mark_or, symbol_by, mark_of_word, mark_of_sign, lexed, TokenKind, Word, Number, Sign, with_text-among, with_text-new, number-last, token_symbols, DeclaredInOrder}
use Rattle.std.proofs.Common.{if◌then◌else◌}
use Rattle.sm_syntax.specs.declared.symbol.Symbol.TheVariants as s
use Rattle.sm_syntax.specs.text.Conditions.{first_refusal, ill_formed, program_fault}
use Rattle.sm_syntax.specs.text.MarkedSymbols as g
use Rattle.sm_syntax.specs.text.TaskGrammar as task
use Rattle.sm_syntax.specs.text.Symbols.{symbol_of, symbols_among, names_among, symbols_of}
use Rattle.sm_syntax.specs.declared.token.Token.{Token}
use Rattle.sm_text.proofs.Numbering.Counted.{among-below, fresh-last}
use Rattle.sm_text.proofs.Numbering.Symbols.{names_with, grown-names_after, known-names_with, symbol_by-append}

-- the numbers of the names among symbols
abbrev numbers : List Symbol → List ℕ
numbers [] = []
numbers (s.Mark m ∷ ts) = numbers ts
numbers (s.Number z ∷ ts) = numbers ts
numbers (s.Name x ∷ ts) = x.0 ∷ numbers ts

-- each number is one of the first k, or the next
abbrev Appear : ℕ → List ℕ → Type 0
Appear k [] = Unit {0}
Appear k (x ∷ xs) = ((x < k) × Appear k xs) ⊎ ((x ≡ k) × Appear (k + 1) xs)

appear-front : (k : ℕ) (xs ys : List ℕ) → Appear k (xs ++ ys) → Appear k xs
appear-front k [] ys h = tt
appear-front k (x ∷ xs) ys (inl h) = inl (h.0, appear-front k xs ys h.1)
appear-front k (x ∷ xs) ys (inr h) = inr (h.0, appear-front (k + 1) xs ys h.1)

no_some : (x : ℕ) → Some x ≡ (let o : Option ℕ = None in o) → ⊥
no_some x e = cc

-- one more number is below the next one
one_more : (k : ℕ) (seen : List ℕ) → ((x : ℕ) → x < k → is_in seen x ≡ true) → (x : ℕ) → x ≡ k → (y : ℕ) → y < k + 1 →
    is_in (x ∷ seen) y ≡ true
one_more k seen below x same y less = by (y == x) refl
  where
    by : (b : Bool) → (y == x) ≡ b → is_in (x ∷ seen) y ≡ true
    by true e = ap (λ (b : Bool). b || is_in seen y) e
    by false e = ap (λ (b : Bool). b || is_in seen y) e ∙ below y (grind (arith, nat_tests, same, less))

-- numbers that appear so, with none twice, are in order
in_order : (k : ℕ) (seen xs : List ℕ) → Appear k xs → ((x : ℕ) → x < k → is_in seen x ≡ true) → first_repeated seen xs ≡ None →
    xs ≡ range_with_len k (length xs)
in_order k seen [] h below none = refl
in_order k seen (x ∷ xs) (inl h) below none =
    absurd (no_some x (sym (ap (λ (b : Bool). if b then Some x else first_repeated (x ∷ seen) xs) (below x h.0)) ∙ none))
in_order k seen (x ∷ xs) (inr h) below none = by (is_in seen x) refl (in_order (k + 1) (x ∷ seen) xs h.1 (one_more k seen below x h.0))
  where
    found : Bool → Option ℕ
    found b = if b then Some x else first_repeated (x ∷ seen) xs

    by : (b : Bool) → is_in seen x ≡ b → (first_repeated (x ∷ seen) xs ≡ None → xs ≡ range_with_len (k + 1) (length xs)) →
        (x ∷ xs) ≡ range_with_len k (length (x ∷ xs))
    by true e rest = absurd (no_some x (sym (ap found e) ∙ none))
    by false e rest = ap₂ (λ (y : ℕ) (ys : List ℕ). y ∷ ys) h.0 (rest (sym (ap found e) ∙ none))

-- a word that isn't reserved is a name from before, or the next
next_name : (before : List (List ℕ)) (text : List ℕ) (xs : List ℕ) → Appear (length (with_text before text)) xs →
    Appear (length before) (position_or_len (bytes_eq text) (with_text before text) ∷ xs)
next_name before text xs h = by (is_among before text) refl
  where
    P : List (List ℕ) → Type 0
    P names = Appear (length names) xs → Appear (length before) (position_or_len (bytes_eq text) names ∷ xs)

    by : (b : Bool) → is_among before text ≡ b → Appear (length before) (position_or_len (bytes_eq text) (with_text before text) ∷ xs)
    by true e =
        let stays : P before = λ a. inl (among-below before text e, a) in
        subst P (sym (with_text-among before text e)) stays h
    by false e =
        let F : ℕ → Type 0 = λ k. Appear k xs in
        let grows : P (before ++ text ∷ []) =
        λ a. inr (number-last before text ∙ fresh-last before text e, subst F (length_push before text) a) in
        subst P (sym (with_text-new before text e)) grows h

next_symbol : (kind : TokenKind) (before : List (List ℕ)) (text : List ℕ) (ts : List Symbol) →
    Appear (length (names_with before kind text)) (numbers ts) →
    Appear (length before) (numbers (symbol_by kind (names_with before kind text) text ∷ ts))
next_symbol Number before text ts h = h
next_symbol Sign before text ts h = by (mark_of_sign text)
  where
    by : (o : Option Mark) → Appear (length before) (numbers (mark_or o (s.Mark Semicolon) ∷ ts))
    by None = h
    by (Some m) = h
next_symbol Word before text ts h = by (mark_of_word text) h
  where
    added : Option Mark → List (List ℕ)
    added o = if not (is_some o) then with_text before text else before

    by : (o : Option Mark) → Appear (length (added o)) (numbers ts) →
        Appear (length before) (numbers (mark_or o (s.Name (record { 0 = position_or_len (bytes_eq text) (added o) })) ∷ ts))
    by (Some m) h = h
    by None h = next_name before text (numbers ts) h

-- the names of tokens appear in the order of their numbers
signs_appear : (bytes : List ℕ) (before : List (List ℕ)) (ts : List Token) →
    Appear (length before) (numbers (token_symbols bytes before ts))
unfolding symbol_of
signs_appear bytes before [] = tt
signs_appear bytes before (t ∷ ts) =
    let text = text_of bytes t in
    let now = names_with before t.kind text in
    let rest = grown-names_after bytes now ts in
    let symbol : symbol_by t.kind (names_after bytes now ts) text ≡ symbol_by t.kind now text =
    ap (λ (l : List (List ℕ)). symbol_by t.kind l text) rest.1
    ∙ symbol_by-append t.kind now rest.0 text (known-names_with before t.kind text) in
    let F : Symbol → Type 0 = λ u. Appear (length before) (numbers (u ∷ token_symbols bytes now ts)) in
    subst F (sym symbol) (next_symbol t.kind before text (token_symbols bytes now ts) (signs_appear bytes now ts))

-- the numbers of the names among marked symbols
abbrev marked_numbers : List Marked → List ℕ
marked_numbers [] = []
marked_numbers ((s.Mark m, b) ∷ ts) = marked_numbers ts
marked_numbers ((s.Number z, b) ∷ ts) = marked_numbers ts
marked_numbers ((s.Name x, b) ∷ ts) = x.0 ∷ marked_numbers ts

numbers-plain : (ts : List Symbol) → marked_numbers (map plain ts) ≡ numbers ts
numbers-plain [] = refl
numbers-plain (s.Mark m ∷ ts) = numbers-plain ts
numbers-plain (s.Number z ∷ ts) = numbers-plain ts
numbers-plain (s.Name x ∷ ts) = ap (λ (l : List ℕ). x.0 ∷ l) (numbers-plain ts)

numbers-append : (ts us : List Marked) → marked_numbers (ts ++ us) ≡ marked_numbers ts ++ marked_numbers us
numbers-append [] us = refl
numbers-append ((s.Mark m, b) ∷ ts) us = numbers-append ts us
numbers-append ((s.Number z, b) ∷ ts) us = numbers-append ts us
numbers-append ((s.Name x, b) ∷ ts) us = ap (λ (l : List ℕ). x.0 ∷ l) (numbers-append ts us)

-- the declared names
abbrev names_of_all : List (ℕ × Sort) → List ℕ
names_of_all ds = map (λ (d : ℕ × Sort). d.0) ds

listed : {ts : List Marked} {xs : List ℕ} → AreNames ts xs → marked_numbers ts ≡ xs
listed (task.last x) = refl
listed (AreNames.more x rest) = ap (λ (l : List ℕ). x.0 ∷ l) (listed rest)

with_sort-names : (sort : Sort) (xs : List ℕ) (ds : List (ℕ × Sort)) → names_of_all (with_sort sort xs ++ ds) ≡ xs ++ names_of_all ds
with_sort-names sort [] ds = refl
with_sort-names sort (x ∷ xs) ds = ap (λ (l : List ℕ). x ∷ l) (with_sort-names sort xs ds)

declared_numbers : {ts : List Marked} {ds : List (ℕ × Sort)} → AreDeclarations ts ds → marked_numbers ts ≡ names_of_all ds
declared_numbers AreDeclarations.none = refl
declared_numbers (AreDeclarations.more {ts = ts} {us = us} {xs = xs} {ds = ds} sort names rest) =
    numbers-append ts (g.word Semicolon ∷ us) ∙ ap₂ (λ (l r : List ℕ). l ++ r) (listed names) (declared_numbers rest)
    ∙ sym (with_sort-names sort xs ds)

-- the declared names are the first of a task
declared_first : {ts : List Marked} {t : Parts} → IsTask ts t → (more : List ℕ) × (marked_numbers ts ≡ names_of_all t.declared ++ more)
declared_first (task.task {ts = ts} {us = us} {vs = vs} {ws = ws} {o = o} {a = a} {b = b} {m = m} t declared named assumed code base
    variant_a variant_b candidate) =
    let others = us ++ (vs ++ (ws ++ (o ++ (a ++ (b ++ m))))) in
    (marked_numbers others, numbers-append ts others ∙ ap (λ (l : List ℕ). l ++ marked_numbers others) (declared_numbers declared))

none_first : (a b : Option Refusal) → option_or a b ≡ None → a ≡ None
none_first None b e = refl
none_first (Some r) b e = cc

-- where no condition fails, the fifth doesn't
fifth : (a b c d e f : Option Refusal) → first_of_all (a ∷ b ∷ c ∷ d ∷ e ∷ f ∷ []) ≡ None → e ≡ None
fifth None None None None e f none = none_first e (first_of_all (f ∷ [])) none
fifth (Some r) b c d e f none = cc
fifth None (Some r) c d e f none = cc
fifth None None (Some r) d e f none = cc
fifth None None None (Some r) e f none = cc

no_double : (o : Option ℕ) → (let name = λ (x : ℕ). DoubleName x in Rattle.std.specs.Prelude.option_map name o) ≡ None → o ≡ None
no_double None e = refl
no_double (Some x) e = cc

-- no name of a valid task is declared twice
declared_once : (t : Parts) → first_refusal t ≡ None → first_repeated [] (names_of_all t.declared) ≡ None
unfolding first_refusal ill_formed program_fault
declared_once t valid =
    let fault : Copy → Option Refusal = λ c. program_fault t.declared t.outputs (fill (t.fillings c) t.shared) in
    let formed : first_of_all (fault O ∷ fault A ∷ fault B ∷ fault M ∷ []) ≡ None =
    fifth (double_hole t) (hole_in_filling t) (unknown_hole t) (missing_filling t) (ill_formed t) (ill_assumed t.declared t.assumed)
    valid in
    let base : fault O ≡ None = none_first (fault O) (first_of_all (fault A ∷ fault B ∷ fault M ∷ [])) formed in
    no_double (first_repeated [] (names_of_all t.declared)) (none_first (double_name t.declared) _ base)

names_appear : (bytes : List ℕ) → Appear 0 (numbers (symbols_of bytes))
unfolding symbols_of symbols_among names_among
names_appear bytes = signs_appear bytes [] (lexed bytes).0

pub declared_in_order : DeclaredInOrder
declared_in_order bytes t p =
    let names = names_of_all t.declared in
    let first = declared_first p.text.grammar in
    let F : List ℕ → Type 0 = λ l. Appear 0 l in
    let appear : Appear 0 names =
    appear-front 0 names first.0 (subst F (sym (numbers-plain (symbols_of bytes)) ∙ first.1) (names_appear bytes)) in
    in_order 0 [] names appear (λ x less. absurd (omega (arith, less))) (declared_once t p.valid)
    ∙ ap (λ (n : ℕ). range_with_len 0 n) (size t.declared)
  where
    size : (ds : List (ℕ × Sort)) → length (names_of_all ds) ≡ length ds
    size [] = refl
    size (d ∷ ds) = ap (λ (n : ℕ). suc n) (size ds)
