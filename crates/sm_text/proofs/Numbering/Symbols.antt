-- The symbols of the tokens so far, where the names are numbered as in the whole text.
use Rattle.sm_text.proofs.Imports.{◌≡◌, ℕ, ◌+◌, ◌<◌, ◌≤◌, Bool, true, false, not, List, [], ◌∷◌, ◌++◌, map, length, take, drop, get_or, Option, Some, None, is_some, Result, Ok, Err, refl, sym, ap, ◌∙◌, append_assoc, take_all, take-append_seam, take_more, map_more, position_or_len, OnErr, bytes_eq, Mark, Symbol, mark_of_word, lexed, TokenKind, Word, Number, Sign, text_of, is_among, with_text, is_name, names_after, mark_or, symbol_by, is_among-with_text, number-append, grown-with_text}
use Rattle.std.proofs.Common.{if◌then◌else◌, append-nil}
use Rattle.std.proofs.Common.{take-append-drop}
use Rattle.sm_syntax.specs.declared.symbol.Symbol.TheVariants.{Name}
use Rattle.sm_syntax.specs.declared.token.Token.{Token}
use Rattle.sm_syntax.specs.text.Symbols.{symbol_of, names_among, symbols_among, names_of, symbols_of}

-- the names after one more token
abbrev pub names_with : List (List ℕ) → TokenKind → List ℕ → List (List ℕ)
names_with names kind text = if is_name kind text then with_text names text else names

-- the names of tokens before others go on to the names of all
pub names_after-append : (bytes : List ℕ) (names : List (List ℕ)) (us vs : List Token) →
    names_after bytes names (us ++ vs) ≡ names_after bytes (names_after bytes names us) vs
names_after-append bytes names [] vs = refl
names_after-append bytes names (t ∷ us) vs = names_after-append bytes (names_with names t.kind (text_of bytes t)) us vs

-- more tokens only add names at the end
grown-names_with : (names : List (List ℕ)) (kind : TokenKind) (text : List ℕ) →
    (more : List (List ℕ)) × (names_with names kind text ≡ names ++ more)
grown-names_with names kind text = by (is_name kind text)
  where
    by : (b : Bool) → (more : List (List ℕ)) × ((if b then with_text names text else names) ≡ names ++ more)
    by true = grown-with_text names text
    by false = ([], sym (append-nil names))

pub grown-names_after : (bytes : List ℕ) (names : List (List ℕ)) (ts : List Token) →
    (more : List (List ℕ)) × (names_after bytes names ts ≡ names ++ more)
grown-names_after bytes names [] = ([], sym (append-nil names))
grown-names_after bytes names (t ∷ ts) =
    let first = grown-names_with names t.kind (text_of bytes t) in
    let rest = grown-names_after bytes (names_with names t.kind (text_of bytes t)) ts in
    (first.0 ++ rest.0, rest.1 ∙ ap (λ l. l ++ rest.0) first.1 ∙ append_assoc names first.0 rest.0)

-- a name's symbol stays where names are added after it
pub symbol_by-append : (kind : TokenKind) (names more : List (List ℕ)) (text : List ℕ) →
    (is_name kind text ≡ true → is_among names text ≡ true) → symbol_by kind (names ++ more) text ≡ symbol_by kind names text
symbol_by-append Word names more text known = by (mark_of_word text) known
  where
    by : (o : Option Mark) → (not (is_some o) ≡ true → is_among names text ≡ true)
        → mark_or o (Name (record { 0 = position_or_len (bytes_eq text) (names ++ more) })) ≡ mark_or o
        (Name (record { 0 = position_or_len (bytes_eq text) names }))
    by (Some m) known = refl
    by None known = ap (λ n. Name (record { 0 = n })) (number-append names more text (known refl))
symbol_by-append Number names more text known = refl
symbol_by-append Sign names more text known = refl

-- after a token its name is among the names
pub known-names_with : (names : List (List ℕ)) (kind : TokenKind) (text : List ℕ) → is_name kind text ≡ true →
    is_among (names_with names kind text) text ≡ true
known-names_with names kind text h = ap (λ b. is_among (if b then with_text names text else names) text) h ∙ is_among-with_text names text

-- a table to which the names of tokens were added begins with what it was
pub kept-names_after : (bytes : List ℕ) (before names : List (List ℕ)) (ts : List Token) → names ≡ names_after bytes before ts →
    take (length before) names ≡ before
kept-names_after bytes before names ts same =
    let grown = grown-names_after bytes before ts in
    ap (take (length before)) (same ∙ grown.1) ∙ take-append_seam before grown.0

-- so it does where an error is given
pub kept-on_err : {T E : Type 0} (r : Result T E) (bytes : List ℕ) (before names : List (List ℕ)) (ts : List Token) →
    names ≡ names_after bytes before ts → OnErr r (take (length before) names ≡ before)
kept-on_err (Ok x) bytes before names ts same = tt
kept-on_err (Err e) bytes before names ts same = kept-names_after bytes before names ts same

-- the first tokens are made symbols, with the names so far after those that stood before
pub record IsRead (bytes : List ℕ) (before : List (List ℕ)) (tokens : List Token) (i : ℕ) (names : List (List ℕ))
    (symbols : List Symbol) : Type 0 where
  pub names_are : names ≡ names_after bytes before (take i tokens)
  pub symbols_are : symbols ≡ map (symbol_of bytes (names_after bytes before tokens)) (take i tokens)

pub IsRead-start : (bytes : List ℕ) (before : List (List ℕ)) (tokens : List Token) → IsRead bytes before tokens 0 before []
IsRead-start bytes before tokens = record { names_are = refl; symbols_are = refl }

-- the names after one more token
pub IsRead-more : (bytes : List ℕ) (before : List (List ℕ)) (tokens : List Token) (i : ℕ) (names new : List (List ℕ))
    (symbols : List Symbol) (d : Token)
    → IsRead bytes before tokens i names symbols → i < length tokens →
    new ≡ names_with names (get_or tokens i d).kind (text_of bytes (get_or tokens i d)) →
    new ≡ names_after bytes before (take (i + 1) tokens)
IsRead-more bytes before tokens i names new symbols d read more added =
    let t = get_or tokens i d in
    added ∙ ap (λ l. names_with l t.kind (text_of bytes t)) read.names_are ∙ sym (names_after-append bytes before (take i tokens) (t ∷ []))
    ∙ ap (names_after bytes before) (sym (take_more tokens i d more))

pub IsRead-next : (bytes : List ℕ) (before : List (List ℕ)) (tokens : List Token) (i : ℕ) (names new : List (List ℕ))
    (symbols : List Symbol) (d : Token) (s : Symbol)
    → IsRead bytes before tokens i names symbols → i < length tokens →
    new ≡ names_with names (get_or tokens i d).kind (text_of bytes (get_or tokens i d)) →
    s ≡ symbol_by (get_or tokens i d).kind new (text_of bytes (get_or tokens i d))
    → IsRead bytes before tokens (i + 1) new (symbols ++ s ∷ [])
unfolding symbol_of
IsRead-next bytes before tokens i names new symbols d s read more added made =
    let t = get_or tokens i d in
    let text = text_of bytes t in
    let names_are = IsRead-more bytes before tokens i names new symbols d read more added in
    let rest = grown-names_after bytes new (drop (i + 1) tokens) in
    let all : names_after bytes before tokens ≡ new ++ rest.0 =
    ap (names_after bytes before) (sym (take-append-drop (i + 1) tokens))
    ∙ names_after-append bytes before (take (i + 1) tokens) (drop (i + 1) tokens)
    ∙ ap (λ l. names_after bytes l (drop (i + 1) tokens)) (sym names_are)
    ∙ rest.1 in
    let known : is_name t.kind text ≡ true → is_among new text ≡ true =
    λ h. ap (λ l. is_among l text) added ∙ known-names_with names t.kind text h in
    let same : s ≡ symbol_by t.kind (names_after bytes before tokens) text =
    made ∙ sym (symbol_by-append t.kind new rest.0 text known) ∙ ap (λ l. symbol_by t.kind l text) (sym all) in
    record {
      names_are = names_are;
      symbols_are =
          ap (λ l. l ++ s ∷ []) read.symbols_are
          ∙ ap (λ x. map (symbol_of bytes (names_after bytes before tokens)) (take i tokens) ++ x ∷ []) same
          ∙ sym (map_more (symbol_of bytes (names_after bytes before tokens)) tokens i d more);
    }

-- all of them
pub IsRead-names : (bytes : List ℕ) (before : List (List ℕ)) (tokens : List Token) (names : List (List ℕ)) (symbols : List Symbol) (i : ℕ) →
    length tokens ≤ i → IsRead bytes before tokens i names symbols → names ≡ names_after bytes before tokens
IsRead-names bytes before tokens names symbols i end read = read.names_are ∙ ap (names_after bytes before) (take_all i tokens end)

pub IsRead-symbols : (bytes : List ℕ) (before : List (List ℕ)) (tokens : List Token) (names : List (List ℕ)) (symbols : List Symbol)
    (i : ℕ) → length tokens ≤ i → IsRead bytes before tokens i names symbols → symbols ≡ map (symbol_of bytes names) tokens
IsRead-symbols bytes before tokens names symbols i end read =
    read.symbols_are
    ∙ ap (map (symbol_of bytes (names_after bytes before tokens))) (take_all i tokens end)
    ∙ ap (λ l. map (symbol_of bytes l) tokens) (sym (IsRead-names bytes before tokens names symbols i end read))

-- those of a whole text
pub names_of-all : (bytes : List ℕ) (tokens : List Token) (names : List (List ℕ)) → tokens ≡ (lexed bytes).0 →
    names ≡ names_after bytes [] tokens → names ≡ names_of bytes
unfolding names_of names_among
names_of-all bytes tokens names cut n = n ∙ ap (names_after bytes []) cut

pub symbols_of-all : (bytes : List ℕ) (tokens : List Token) (names : List (List ℕ)) (symbols : List Symbol) → tokens ≡ (lexed bytes).0 →
    names ≡ names_after bytes [] tokens → symbols ≡ map (symbol_of bytes names) tokens → symbols ≡ symbols_of bytes
unfolding symbols_of symbols_among names_among
symbols_of-all bytes tokens names symbols cut n s =
    s ∙ ap (λ l. map (symbol_of bytes l) tokens) n ∙ ap (λ ts. map (symbol_of bytes (names_after bytes [] ts)) ts) cut
