-- Each name of a head has a text. Where all that it assumes is declared, a text without the assumption spells its program.
use Rattle.sm_text.proofs.Imports.{◌≡◌, ℕ, ◌==◌, Bool, true, false, true≢false, Option, Some, None, is_some, List, [], ◌∷◌, ◌++◌, map, refl, sym, ap, ◌∙◌, subst, arith, nat_tests, AllByRecursion, slice_get, Sort, names_in, names_tested, Marked, plain, Symbol, sort_of, is_among, with_text, symbol_of, Expression, Lit, Var, Read, Neg, Plus, Minus, Times, Condition, Yes, No, Compare, Not, And, Or, Lexed, lexed, with_text-among, is_among-with_text, grown-with_text, IsProgram, program, HasProgramText, pieces_text, unmarked, ProgramParts, HeadParts, tokens_between, IsHead, head, SpellsHead, AssumesDeclared, IsNamedHead}
use Rattle.std.proofs.Common.{if◌then◌else◌, unwrap_or}
use Rattle.sm_syntax.specs.declared.symbol.Symbol.TheVariants as s
use Rattle.sm_text.proofs.RoundTrip.Content.{content, both, content_of, content_tested, content_used, content_listed, content_declared, content_assumed, declarations_content, outputs_content, assumption_content, shared_content}
use Rattle.sm_text.proofs.RoundTrip.Fitting.{IsClean, clean_left, clean_right, clean_plain}
use Rattle.sm_text.proofs.RoundTrip.Parts.{content_of_program, program_content}
use Rattle.sm_text.proofs.RoundTrip.Tasks.{AllIn, all_spelled, content_in, content_all, names_by-content, IsContent, pieces_again}
use Rattle.sm_text.proofs.RoundTrip.TextTokens.{relexed}
use Rattle.sm_text.proofs.RoundTrip.Symbols.{names_by, among_more, known_behind, names_are}
use Rattle.sm_text.proofs.Prefix.Spaced.{spaced, spaced-symbols, spaced_apart, part_in}
use Rattle.sm_text.proofs.RoundTrip.Spelled.{all_left, all_right, declared_written, listed_written, assumed_written, code_written, declared_named, outputs_named, assumed_named, code_named}

-- the text of a name
abbrev text : List (List ℕ) → ℕ → List ℕ
text names x = unwrap_or (slice_get names x) []

-- the names after two lists of symbols
names_by-append : (names before : List (List ℕ)) (us vs : List Symbol) →
    names_by names before (us ++ vs) ≡ names_by names (names_by names before us) vs
names_by-append names before [] vs = refl
names_by-append names before (s.Mark m ∷ us) vs = names_by-append names before us vs
names_by-append names before (s.Number z ∷ us) vs = names_by-append names before us vs
names_by-append names before (s.Name x ∷ us) vs = names_by-append names (with_text before (text names x.0)) us vs

-- what stood among the names stays there
among_after : (names before : List (List ℕ)) (us : List Symbol) (t : List ℕ) → is_among before t ≡ true →
    is_among (names_by names before us) t ≡ true
among_after names before [] t h = h
among_after names before (s.Mark m ∷ us) t h = among_after names before us t h
among_after names before (s.Number z ∷ us) t h = among_after names before us t h
among_after names before (s.Name x ∷ us) t h =
    let grown = grown-with_text before (text names x.0) in
    among_after names (with_text before (text names x.0)) us t (ap (λ (l : List (List ℕ)). is_among l t) grown.1
    ∙ among_more before grown.0 t h)

-- a name whose text stood before
abbrev IsHere : List (List ℕ) → List (List ℕ) → Symbol → Type 0
IsHere names before (s.Mark m) = Unit {0}
IsHere names before (s.Number z) = Unit {0}
IsHere names before (s.Name x) = is_among before (text names x.0) ≡ true

-- such names add nothing
nothing_new : (names before : List (List ℕ)) (us : List Symbol) → AllByRecursion (IsHere names before) us →
    names_by names before us ≡ before
nothing_new names before [] all = refl
nothing_new names before (s.Mark m ∷ us) all = nothing_new names before us all.1
nothing_new names before (s.Number z ∷ us) all = nothing_new names before us all.1
nothing_new names before (s.Name x ∷ us) all =
    ap (λ (l : List (List ℕ)). names_by names l us) (with_text-among before (text names x.0) all.0) ∙ nothing_new names before us all.1

-- the text of a declared name stands among the names after the declarations
declared_among : (names before : List (List ℕ)) (ds : List (ℕ × Sort)) (x : ℕ) → is_some (sort_of ds x) ≡ true →
    is_among (names_by names before (content_declared ds)) (text names x) ≡ true
declared_among names before [] x h = absurd (true≢false (sym h))
declared_among names before (d ∷ ds) x h = by (d.0 == x) refl h (declared_among names (with_text before (text names d.0)) ds x)
  where
    by : (b : Bool) → (d.0 == x) ≡ b → is_some (if b then Some d.1 else sort_of ds x) ≡ true →
        (is_some (sort_of ds x) ≡ true → is_among (names_by names (with_text before (text names d.0)) (content_declared ds))
        (text names x) ≡ true) →
        is_among (names_by names (with_text before (text names d.0)) (content_declared ds)) (text names x) ≡ true
    by true e h more =
        let same : d.0 ≡ x = grind (arith, nat_tests) in
        among_after names (with_text before (text names d.0)) (content_declared ds) (text names x)
        (ap (λ (n : ℕ). is_among (with_text before (text names n)) (text names x)) same ∙ is_among-with_text before (text names x))
    by false e h more = more h

all_of : {T : Type 0} (P : T → Type 0) (xs ys : List T) → AllByRecursion P xs → AllByRecursion P ys → AllByRecursion P (xs ++ ys)
all_of P [] ys one two = two
all_of P (x ∷ xs) ys one two = (one.0, all_of P xs ys one.1 two)

module _ (names before : List (List ℕ)) (ds : List (ℕ × Sort)) (here : (x : ℕ) → is_some (sort_of ds x) ≡ true →
    is_among before (text names x) ≡ true) where
  abbrev IsDeclared : ℕ × Sort → Type 0
  IsDeclared x = is_some (sort_of ds x.0) ≡ true

  both_here : (xs ys : List (ℕ × Sort)) (us vs : List Symbol) → (AllByRecursion IsDeclared xs → AllByRecursion (IsHere names before) us) →
      (AllByRecursion IsDeclared ys → AllByRecursion (IsHere names before) vs) → AllByRecursion IsDeclared (xs ++ ys) →
      AllByRecursion (IsHere names before) (us ++ vs)
  both_here xs ys us vs one two all =
      all_of (IsHere names before) us vs (one (all_left IsDeclared xs ys all)) (two (all_right IsDeclared xs ys all))

  expression_here : (e : Expression) → AllByRecursion IsDeclared (names_in e) → AllByRecursion (IsHere names before) (content_of e)
  expression_here (Lit z) all = (tt, tt)
  expression_here (Var x) all = (here x all.0, tt)
  expression_here (Read a i) all = (here a all.0, expression_here i all.1)
  expression_here (Neg e) all = expression_here e all
  expression_here (Plus d e) all =
      both_here (names_in d) (names_in e) (content_of d) (content_of e) (expression_here d) (expression_here e) all
  expression_here (Minus d e) all =
      both_here (names_in d) (names_in e) (content_of d) (content_of e) (expression_here d) (expression_here e) all
  expression_here (Times d e) all =
      both_here (names_in d) (names_in e) (content_of d) (content_of e) (expression_here d) (expression_here e) all

  condition_here : (b : Condition) → AllByRecursion IsDeclared (names_tested b) → AllByRecursion (IsHere names before) (content_tested b)
  condition_here Yes all = tt
  condition_here No all = tt
  condition_here (Compare op d e) all =
      both_here (names_in d) (names_in e) (content_of d) (content_of e) (expression_here d) (expression_here e) all
  condition_here (Not b) all = condition_here b all
  condition_here (And b c) all =
      both_here (names_tested b) (names_tested c) (content_tested b) (content_tested c) (condition_here b) (condition_here c) all
  condition_here (Or b c) all =
      both_here (names_tested b) (names_tested c) (content_tested b) (content_tested c) (condition_here b) (condition_here c) all

  assumed_here : (o : Option Condition) → AssumesDeclared ds o → AllByRecursion (IsHere names before) (content_assumed o)
  assumed_here None all = tt
  assumed_here (Some b) all = condition_here b all

-- the names and numbers of a head
abbrev content_of_head : HeadParts → List Symbol
content_of_head h = content_declared
    h.program.declared ++ (content_listed h.program.outputs ++ (content_assumed h.assumed ++ content_used h.program.body))

head_content : {ts : List Marked} {h : HeadParts} → IsHead ts h → content ts ≡ content_of_head h
head_content (head {ts = ts} {us = us} {vs = vs} {ws = ws} h decls outs assume body) =
    let d = content_declared h.program.declared in
    let x = content_listed h.program.outputs in
    let v = content_assumed h.assumed in
    let c = content_used h.program.body in
    both ts (us ++ (vs ++ ws)) d (x ++ (v ++ c)) (declarations_content decls)
    (both us (vs ++ ws) x (v ++ c) (outputs_content outs) (both vs ws v c (assumption_content assume) (shared_content body)))

-- what a text has of a head
head_has : (bytes : List ℕ) (n : ℕ) (h : HeadParts) → SpellsHead bytes n h → IsContent h.program.names (content_of_head h)
head_has bytes n h spells =
    let names = h.program.names in
    let part = tokens_between 0 n (lexed bytes).0 in
    let ts = map (symbol_of bytes names) part in
    let C : List Symbol → Type 0 = λ l. IsContent names l in
    let all = content_in names ts (part_in bytes 0 n [] names spells.numbered) in
    let numbered = names_by-content names [] ts ∙ names_are bytes names [] part (known_behind bytes [] part names spells.numbered)
    ∙ sym spells.numbered in
    subst C (head_content spells.grammar) (record { all = all; numbered = numbered })

-- each name of a head has a text
pub head_named : (bytes : List ℕ) (n : ℕ) (h : HeadParts) → SpellsHead bytes n h → IsNamedHead h
head_named bytes n h spells =
    let names = h.program.names in
    let d = content_declared h.program.declared in
    let x = content_listed h.program.outputs in
    let v = content_assumed h.assumed in
    let c = content_used h.program.body in
    let all = all_spelled names (content_of_head h) (head_has bytes n h spells).all in
    let rest = all_right _ d (x ++ (v ++ c)) all in
    let last = all_right _ x (v ++ c) rest in
    record {
      program = record {
        declared = declared_named names h.program.declared (declared_written names h.program.declared (all_left _ d (x ++ (v ++ c)) all));
        outputs = outputs_named names h.program.outputs (listed_written names h.program.outputs (all_left _ x (v ++ c) rest));
        body = code_named names h.program.body (code_written names h.program.body (all_right _ v c last));
      };
      assumed = assumed_named names h.assumed (assumed_written names h.assumed (all_left _ v c last));
    }

-- what it has of the head's program, where all that is assumed is declared
program_of_head_has : (bytes : List ℕ) (n : ℕ) (h : HeadParts) → SpellsHead bytes n h → AssumesDeclared h.program.declared h.assumed →
    IsContent h.program.names (content_of_program h.program)
program_of_head_has bytes n h spells declared =
    let names = h.program.names in
    let d = content_declared h.program.declared in
    let x = content_listed h.program.outputs in
    let v = content_assumed h.assumed in
    let c = content_used h.program.body in
    let has = head_has bytes n h spells in
    let rest = all_right _ d (x ++ (v ++ c)) has.all in
    let last = all_right _ x (v ++ c) rest in
    let one = names_by names [] d in
    let two = names_by names one x in
    let here : (y : ℕ) → is_some (sort_of h.program.declared y) ≡ true → is_among two (text names y) ≡ true =
    λ y some. among_after names one x (text names y) (declared_among names [] h.program.declared y some) in
    let same : names_by names two v ≡ two = nothing_new names two v (assumed_here names two h.program.declared here h.assumed declared) in
    let with_it : names_by names [] (d ++ (x ++ (v ++ c))) ≡ names_by names two c =
    names_by-append names [] d (x ++ (v ++ c)) ∙ names_by-append names one x (v ++ c) ∙ names_by-append names two v c
    ∙ ap (λ (l : List (List ℕ)). names_by names l c) same in
    let without_it : names_by names [] (d ++ (x ++ c)) ≡ names_by names two c =
    names_by-append names [] d (x ++ c) ∙ names_by-append names one x c in
    record {
      all = all_of _ d (x ++ c) (all_left _ d (x ++ (v ++ c)) has.all) (all_of _ x c (all_left _ x (v ++ c) rest) (all_right _ v c last));
      numbered = without_it ∙ sym with_it ∙ has.numbered;
    }

-- where nothing nests too deep, the marks say nothing
plain_again : (ts : List Marked) → IsClean ts → map plain (unmarked ts) ≡ ts
plain_again [] clean = refl
plain_again (t ∷ ts) clean =
    ap (λ (b : Bool). (t.0, b) ∷ map plain (unmarked ts)) (sym clean.0) ∙ ap (λ (l : List Marked). t ∷ l) (plain_again ts clean.1)

clean_both : (ts us : List Marked) → IsClean ts → IsClean us → IsClean (ts ++ us)
clean_both [] us one two = two
clean_both (t ∷ ts) us one two = (one.0, clean_both ts us one.1 two)

-- a head without its assumption is a program
pub record HasProgram (p : ProgramParts) : Type 0 where
  pub symbols : List Symbol
  pub grammar : IsProgram (map plain symbols) p

program_of_head : {ts : List Marked} {h : HeadParts} → IsHead ts h → IsClean ts → HasProgram h.program
program_of_head (head {ts = ts} {us = us} {vs = vs} {ws = ws} h decls outs assume body) clean =
    let behind = clean_right ts (us ++ (vs ++ ws)) clean in
    let all = ts ++ (us ++ ws) in
    let alone : IsClean all =
    clean_both ts (us ++ ws) (clean_left ts (us ++ (vs ++ ws)) clean)
    (clean_both us ws (clean_left us (vs ++ ws) behind) (clean_right vs ws (clean_right us (vs ++ ws) behind))) in
    let G : List Marked → Type 0 = λ l. IsProgram l h.program in
    record { symbols = unmarked all; grammar = subst G (sym (plain_again all alone)) (program h.program decls outs body) }

-- some text spells it, where all that is assumed is declared
pub head_has_text : (bytes : List ℕ) (n : ℕ) (h : HeadParts) → SpellsHead bytes n h → AssumesDeclared h.program.declared h.assumed →
    HasProgramText h.program
head_has_text bytes n h spells declared =
    let p = h.program in
    let names = p.names in
    let it = program_of_head spells.grammar (clean_plain (map (symbol_of bytes names) (tokens_between 0 n (lexed bytes).0))) in
    let ps = spaced it.symbols in
    let has = program_of_head_has bytes n h spells declared in
    let A : List Symbol → Type 0 = λ l. AllIn names l in
    let all : AllIn names it.symbols = content_all names it.symbols (subst A (sym (program_content it.grammar)) has.all) in
    let cut = relexed names ps (spaced_apart names it.symbols all) in
    let same = ap (λ (l : List Symbol). content (map plain l)) (spaced-symbols it.symbols) ∙ program_content it.grammar in
    let again = pieces_again names ps (content_of_program p) has same cut in
    let G : List Symbol → Type 0 = λ l. IsProgram (map plain l) p in (
      pieces_text names ps,
      record {
        tokens = ap (λ (l : Lexed). l.1) cut;
        names = sym again.names_same;
        grammar = subst G (sym (again.symbols_same ∙ spaced-symbols it.symbols)) it.grammar;
      },
    )
