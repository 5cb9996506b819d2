-- What the lines name that close a branch, from the last line to the first.
use Rattle.sm_used.proofs.Imports.{◌≡◌, ◌∙◌, ◌++◌, ◌||◌, ℕ, zero, suc, Bool, true, false, if◌then◌else◌, List, [], ◌∷◌, reverse, refl, sym, ap, subst, list_any, reverse-append, is_closing, is_split, NumberedLine, Both, Either, Cases, Order, Refl, Sym, Trans, Subst, Cong, Same, Apart, Hit, Miss, Lin, Elim, Tight, Exact, Close, Clash, ProofLine, Header, Term, Form, Node, Cert, branches_after, closing_lines, is_fact_named, line_names_fact, lines_behind, is_in, GoesOnce, Know, known, Names}
use Rattle.std.proofs.lemmas.List.Folds.{list_any-append}
use Rattle.sm_lemmas.proofs.Tests.{or_false}

-- ---- lines that close branches

abbrev plus : ℕ → ℕ → ℕ
plus zero b = b
plus (suc a) b = suc (plus a b)

closing_none : (b : ℕ) → closing_lines b [] ≡ []
closing_none zero = refl
closing_none (suc b) = refl

branches_more : (a b : ℕ) (line : ProofLine) → branches_after (plus a b) line ≡ plus (branches_after a line) b
branches_more a b (Header version) = refl
branches_more a b (Term t) = refl
branches_more a b (Form f) = refl
branches_more a b (Node n) = refl
branches_more a b (Cert l) = of (is_closing l) (is_split l)
  where
    of : (x y : Bool) → (if x then plus a b else (if y then suc (suc (plus a b)) else suc (plus a b)))
        ≡ plus (if x then a else (if y then suc (suc a) else suc a)) b
    of true y = refl
    of false true = refl
    of false false = refl

-- what closes some branches and then others closes all of them
closing_more : (a b : ℕ) (lines : List ProofLine) →
    closing_lines (plus a b) lines ≡ closing_lines a lines ++ closing_lines b (lines_behind a lines)
closing_more zero b lines = refl
closing_more (suc a) b [] = sym (closing_none b)
closing_more (suc a) b (line ∷ lines) =
    ap (λ (k : ℕ). line ∷ closing_lines k lines) (branches_more a b line)
    ∙ ap (λ (ls : List ProofLine). line ∷ ls) (closing_more (branches_after a line) b lines)

-- a fact is named by what closes two branches where it is named in one of them
named_twice : (lines : List ProofLine) (n : ℕ) →
    list_any (line_names_fact n) (closing_lines 2 lines) ≡ (is_fact_named lines n || is_fact_named (lines_behind 1 lines) n)
named_twice lines n =
    ap (list_any (line_names_fact n)) (closing_more 1 1 lines)
    ∙ list_any-append (line_names_fact n) (closing_lines 1 lines) (closing_lines 1 (lines_behind 1 lines))

-- ---- how many branches are left to be closed

pub split_open : (l : NumberedLine) → is_split l ≡ true → is_closing l ≡ false
split_open (Both n) e = refl
split_open (Either n) e = refl
split_open (Cases t u) e = refl
split_open (Order n) e = refl
split_open (Refl t) e = refl
split_open (Sym n) e = refl
split_open (Trans m n) e = refl
split_open (Subst m n) e = refl
split_open (Cong t u ns) e = refl
split_open (Same t u) e = refl
split_open (Apart t u) e = refl
split_open (Hit t n) e = refl
split_open (Miss t u n) e = refl
split_open (Lin n) e = refl
split_open (Elim m n t) e = refl
split_open (Tight n) e = refl
split_open (Exact n) e = refl
split_open (Close n) e = absurd cc
split_open (Clash m n) e = absurd cc

none_after : (others : ℕ) (l : NumberedLine) → is_closing l ≡ true → branches_after others (Cert l) ≡ others
none_after others l closes = ap (λ (b : Bool). if b then others else (if is_split l then suc (suc others) else suc others)) closes

one_after : (others : ℕ) (line : ProofLine) → GoesOnce line → branches_after others line ≡ suc others
one_after others (Header version) goes = refl
one_after others (Term t) goes = refl
one_after others (Form f) goes = refl
one_after others (Node n) goes = refl
one_after others (Cert l) goes =
    ap (λ (b : Bool). if b then others else (if is_split l then suc (suc others) else suc others)) goes.0
    ∙ ap (λ (b : Bool). if b then suc (suc others) else suc others) goes.1

two_after : (others : ℕ) (l : NumberedLine) → is_split l ≡ true → branches_after others (Cert l) ≡ suc (suc others)
two_after others l splits =
    ap (λ (b : Bool). if b then others else (if is_split l then suc (suc others) else suc others)) (split_open l splits)
    ∙ ap (λ (b : Bool). if b then suc (suc others) else suc others) splits

-- ---- what is known of branches, the first that is closed at the front

abbrev KnowAt : List Names → List ProofLine → Type 0
KnowAt stack lines = (j n : ℕ) → known stack j n ≡ is_fact_named (lines_behind j lines) n

closed_at : (stack : List Names) (names : Names) (l : NumberedLine) (lines : List ProofLine) → is_closing l ≡ true → KnowAt stack lines →
    ((n : ℕ) → is_in names n ≡ line_names_fact n (Cert l)) → KnowAt (names ∷ stack) (Cert l ∷ lines)
closed_at stack names l lines closes know is = at
  where
    at : (j n : ℕ) → known (names ∷ stack) j n ≡ is_fact_named (lines_behind j (Cert l ∷ lines)) n
    at zero n =
        is n
        ∙ sym (ap (λ (k : ℕ). line_names_fact n (Cert l) || list_any (line_names_fact n) (closing_lines k lines)) (none_after 0 l closes)
        ∙ or_false (line_names_fact n (Cert l)))
    at (suc j) n = know j n ∙ ap (λ (k : ℕ). is_fact_named (lines_behind k lines) n) (sym (none_after j l closes))

plain_at : (stack rest : List Names) (names : Names) (line : ProofLine) (lines : List ProofLine) → GoesOnce line → KnowAt stack lines →
    ((n : ℕ) → is_in names n ≡ (line_names_fact n line || known stack 0 n)) →
    ((j n : ℕ) → known rest j n ≡ known stack (suc j) n) → KnowAt (names ∷ rest) (line ∷ lines)
plain_at stack rest names line lines goes know is others = at
  where
    at : (j n : ℕ) → known (names ∷ rest) j n ≡ is_fact_named (lines_behind j (line ∷ lines)) n
    at zero n =
        is n ∙ ap (λ (b : Bool). line_names_fact n line || b) (know 0 n)
        ∙ sym (ap (λ (k : ℕ). line_names_fact n line || list_any (line_names_fact n) (closing_lines k lines)) (one_after 0 line goes))
    at (suc j) n =
        others j n ∙ know (suc j) n ∙ ap (λ (k : ℕ). is_fact_named (lines_behind k lines) n) (sym (one_after j line goes))

split_at : (stack rest : List Names) (names : Names) (l : NumberedLine) (lines : List ProofLine) → is_split l ≡ true → KnowAt stack lines →
    ((n : ℕ) → is_in names n ≡ (line_names_fact n (Cert l) || (known stack 0 n || known stack 1 n))) →
    ((j n : ℕ) → known rest j n ≡ known stack (suc (suc j)) n) → KnowAt (names ∷ rest) (Cert l ∷ lines)
split_at stack rest names l lines splits know is others = at
  where
    at : (j n : ℕ) → known (names ∷ rest) j n ≡ is_fact_named (lines_behind j (Cert l ∷ lines)) n
    at zero n =
        is n
        ∙ ap (λ (b : Bool). line_names_fact n (Cert l) || b)
        (ap (λ (b : Bool). b || known stack 1 n) (know 0 n) ∙ ap (λ (b : Bool). is_fact_named lines n || b) (know 1 n)
        ∙ sym (named_twice lines n))
        ∙ sym (ap (λ (k : ℕ). line_names_fact n (Cert l) || list_any (line_names_fact n) (closing_lines k lines)) (two_after 0 l splits))
    at (suc j) n =
        others j n ∙ know (suc (suc j)) n
        ∙ ap (λ (k : ℕ). is_fact_named (lines_behind k lines) n) (sym (two_after j l splits))

-- ---- what is known of branches, the last of them the first that is closed

last_first : (rest : List Names) (names : Names) → reverse (rest ++ names ∷ []) ≡ names ∷ reverse rest
last_first rest names = reverse-append rest (names ∷ [])

-- before all lines are looked at
pub none_known : Know [] []
none_known = at
  where
    at : (j n : ℕ) → false ≡ is_fact_named (lines_behind j []) n
    at zero n = refl
    at (suc j) n = refl

pub closed_known : (old new : List Names) (names : Names) (l : NumberedLine) (lines : List ProofLine) → new ≡ old ++ names ∷ [] →
    is_closing l ≡ true → Know old lines → ((n : ℕ) → is_in names n ≡ line_names_fact n (Cert l)) → Know new (Cert l ∷ lines)
closed_known old new names l lines e closes know is =
    subst (λ (stack : List Names). KnowAt stack (Cert l ∷ lines)) (sym (ap reverse e ∙ last_first old names))
    (closed_at (reverse old) names l lines closes know is)

pub plain_known : (old rest new : List Names) (names : Names) (line : ProofLine) (lines : List ProofLine) → new ≡ rest ++ names ∷ [] →
    GoesOnce line → Know old lines → ((n : ℕ) → is_in names n ≡ (line_names_fact n line || known (reverse old) 0 n)) →
    ((j n : ℕ) → known (reverse rest) j n ≡ known (reverse old) (suc j) n) → Know new (line ∷ lines)
plain_known old rest new names line lines e goes know is others =
    subst (λ (stack : List Names). KnowAt stack (line ∷ lines)) (sym (ap reverse e ∙ last_first rest names))
    (plain_at (reverse old) (reverse rest) names line lines goes know is others)

pub split_known : (old rest new : List Names) (names : Names) (l : NumberedLine) (lines : List ProofLine) → new ≡ rest ++ names ∷ [] →
    is_split l ≡ true → Know old lines →
    ((n : ℕ) → is_in names n ≡ (line_names_fact n (Cert l) || (known (reverse old) 0 n || known (reverse old) 1 n))) →
    ((j n : ℕ) → known (reverse rest) j n ≡ known (reverse old) (suc (suc j)) n) → Know new (Cert l ∷ lines)
split_known old rest new names l lines e splits know is others =
    subst (λ (stack : List Names). KnowAt stack (Cert l ∷ lines)) (sym (ap reverse e ∙ last_first rest names))
    (split_at (reverse old) (reverse rest) names l lines splits know is others)

-- the names of the first branch are taken off
pub first_known : (old rest : List Names) (names : Names) → old ≡ rest ++ names ∷ [] → (n : ℕ) → is_in names n ≡ known (reverse old) 0 n
first_known old rest names e n = ap (λ (stack : List Names). known stack 0 n) (sym (ap reverse e ∙ last_first rest names))

pub others_known : (old rest : List Names) (names : Names) → old ≡ rest ++ names ∷ [] → (j n : ℕ) →
    known (reverse rest) j n ≡ known (reverse old) (suc j) n
others_known old rest names e j n = ap (λ (stack : List Names). known stack (suc j) n) (sym (ap reverse e ∙ last_first rest names))

-- the names of two branches and of a line before them
pub both_known : (old mid : List Names) (first second both names : Names) (l : NumberedLine) (n : ℕ) →
    is_in first n ≡ known (reverse old) 0 n → is_in second n ≡ known (reverse mid) 0 n → known (reverse mid) 0 n ≡ known (reverse old) 1 n →
    is_in both n ≡ (is_in first n || is_in second n) → is_in names n ≡ (line_names_fact n (Cert l) || is_in both n) →
    is_in names n ≡ (line_names_fact n (Cert l) || (known (reverse old) 0 n || known (reverse old) 1 n))
both_known old mid first second both names l n one two next joined named =
    named
    ∙ ap (λ (b : Bool). line_names_fact n (Cert l) || b)
    (joined ∙ ap (λ (b : Bool). b || is_in second n) one ∙ ap (λ (b : Bool). known (reverse old) 0 n || b) (two ∙ next))
