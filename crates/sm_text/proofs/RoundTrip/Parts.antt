-- The canonical text of a program, a condition or a block that some text spells, spells it again.
use Rattle.sm_text.proofs.Imports.{◌≡◌, ℕ, zero, suc, ◌≤◌, true, List, [], ◌++◌, length, map, refl, sym, ap, ◌∙◌, subst, arith, AllByRecursion, list_all, condition_depth, code_depth, Marked, plain, Symbol, IsCondition, IsBlock, names_of, symbols_of, Condition, Code, Lexed, is_space, condition_pieces, block_pieces, declaration_pieces, output_pieces, shared_pieces, ProgramParts, IsProgram, program, SpellsProgram, HasProgramText, IsNamedProgram, IsKnown, symbols_under, IsCutUnder, SpellsCondition, HasConditionText, SpellsBlock, HasBlockText, IsTestedIn, IsUsedIn, pieces_text, symbols_in, margin_at}
use Rattle.std.proofs.Common.{append-nil}
use Rattle.sm_syntax.specs.text.ConditionGrammar.{Disjunction}
use Rattle.sm_text.specs.printing.Canonical.{program_pieces}
use Rattle.sm_text.specs.printing.Pieces.{Piece}
use Rattle.sm_text.proofs.RoundTrip.CodeSpelled.{marked, marked-append, told}
use Rattle.sm_text.proofs.RoundTrip.TaskSpelled.{block_told, declarations_shown, some_outputs_shown, shared_shown}
use Rattle.sm_text.proofs.RoundTrip.TextTokens.{AreApart, relexed}
use Rattle.sm_text.proofs.RoundTrip.Apart.{IsClosed, condition_runs}
use Rattle.sm_text.proofs.RoundTrip.CodeApart.{IsCode}
use Rattle.sm_text.proofs.RoundTrip.TaskApart.{AreTexts, AreDeclaredTexts, both_apart, declarations_apart, outputs_apart, block_runs, shared_apart}
use Rattle.sm_text.proofs.RoundTrip.Content.{content, both, content_tested, content_used, content_listed, content_declared, condition_content, block_content, declarations_content, outputs_content, shared_content}
use Rattle.sm_text.proofs.RoundTrip.Fitting.{IsClean, clean_right, clean_plain, condition_reads, block_fits}
use Rattle.sm_text.proofs.RoundTrip.Printable.{some_outputs, shared_fits}
use Rattle.sm_text.proofs.RoundTrip.Spelled.{left, right, condition_written, code_written, listed_written, declared_written, condition_named, code_named, declared_named, outputs_named}
use Rattle.sm_text.proofs.RoundTrip.Symbols.{under_in, printed_under, tokens_known}
use Rattle.sm_text.proofs.RoundTrip.Tasks.{AllIn, all_spelled, content_in, content_all, IsContent, text_content, pieces_again}

-- nothing follows the last piece
last_closed : (names : List (List ℕ)) → IsClosed names []
last_closed names = record { closed = λ t. refl }

-- pieces with the content of symbols under names, whose tokens are cut as they were put
pub record IsUnder (names : List (List ℕ)) (ps : List Piece) : Type 0 where
  pub text : IsCutUnder names (pieces_text names ps)
  pub symbols : symbols_under names (pieces_text names ps) ≡ symbols_in ps

pub pieces_under : (names : List (List ℕ)) (ps : List Piece) (ss : List Symbol) → AllIn names ss → content (marked ps) ≡ ss →
    AreApart names ps → IsUnder names ps
pieces_under names ps ss all same apart =
    let A : List Symbol → Type 0 = λ l. AllIn names l in
    let good = content_all names (symbols_in ps) (subst A (sym same) all) in
    let cut = relexed names ps apart in
    let K : Lexed → Type 0 = λ l. AllByRecursion (IsKnown (pieces_text names ps) names) l.0 in
    record {
      text = record {
        tokens = ap (λ (l : Lexed). l.1) cut;
        known = subst K (sym cut) (tokens_known names ps [] (pieces_text names ps) 0 refl refl good);
      };
      symbols = printed_under names ps cut good;
    }

-- the content of what a text spells under names
under_content : (names : List (List ℕ)) (bytes : List ℕ) → IsCutUnder names bytes →
    AllIn names (content (map plain (symbols_under names bytes)))
under_content names bytes cut = content_in names (symbols_under names bytes) (under_in names bytes cut.known)

-- the content of what is spelled is that of the symbols
all_under : (names : List (List ℕ)) (bytes : List ℕ) (ss : List Symbol) → IsCutUnder names bytes →
    content (map plain (symbols_under names bytes)) ≡ ss → AllIn names ss
all_under names bytes ss cut same = let A : List Symbol → Type 0 = λ l. AllIn names l in subst A same (under_content names bytes cut)

condition_all : (names : List (List ℕ)) (bytes : List ℕ) (b : Condition) → SpellsCondition names bytes b → AllIn names (content_tested b)
condition_all names bytes b spells = all_under names bytes (content_tested b) spells.text (condition_content spells.grammar)

-- each name of such a condition has a text
pub condition_has_names : (names : List (List ℕ)) (b : Condition) → HasConditionText names b → IsTestedIn (length names) b
condition_has_names names b h =
    condition_named names b (condition_written names b (all_spelled names (content_tested b) (condition_all names h.0 b h.1)))

-- the canonical text of a condition that some text spells, spells it
pub condition_back : (names : List (List ℕ)) (b : Condition) → HasConditionText names b → condition_depth b ≤ 64 →
    SpellsCondition names (pieces_text names (condition_pieces b)) b
condition_back names b h deep =
    let ps = condition_pieces b in
    let all = condition_all names h.0 b h.1 in
    let P : List Piece → Type 0 = λ l. AreApart names l in
    let good = condition_written names b (all_spelled names (content_tested b) all) in
    let apart = subst P (append-nil ps) (condition_runs names b good [] tt (last_closed names)).apart in
    let few = condition_reads h.1.grammar (clean_plain (symbols_under names h.0)) (omega arith) in
    let shown = told b 0 (record { depth = omega (arith, deep); reads = few }) in
    let it = pieces_under names ps (content_tested b) all (condition_content shown.whole) apart in
    let G : List Symbol → Type 0 = λ ss. IsCondition Disjunction 0 shown.chain (map plain ss) b in
    record { text = it.text; chain = shown.chain; grammar = subst G (sym it.symbols) shown.whole }

block_all : (names : List (List ℕ)) (bytes : List ℕ) (c : Code) → SpellsBlock names bytes c → AllIn names (content_used c)
block_all names bytes c spells = all_under names bytes (content_used c) spells.text (block_content spells.grammar)

-- each name of a block that some text spells has a text
pub block_has_names : (names : List (List ℕ)) (c : Code) → HasBlockText names c → IsUsedIn (length names) c
block_has_names names c h = code_named names c (code_written names c (all_spelled names (content_used c) (block_all names h.0 c h.1)))

white : (level : ℕ) → list_all is_space (margin_at level) ≡ true
white zero = refl
white (suc level) = white level

pub block_back : (names : List (List ℕ)) (c : Code) (level : ℕ) → HasBlockText names c → code_depth c ≤ 64 →
    SpellsBlock names (pieces_text names (block_pieces (margin_at level) c)) c
block_back names c level h deep =
    let margin = margin_at level in
    let ps = block_pieces margin c in
    let all = block_all names h.0 c h.1 in
    let P : List Piece → Type 0 = λ l. AreApart names l in
    let good = code_written names c (all_spelled names (content_used c) all) in
    let apart = subst P (append-nil ps) (block_runs names c margin (white level) good [] tt (last_closed names)).apart in
    let fits = block_fits h.1.grammar (clean_plain (symbols_under names h.0)) (omega (arith, deep)) in
    let shown = block_told 0 c margin (omega arith) fits in
    let it = pieces_under names ps (content_used c) all (block_content shown) apart in
    let G : List Symbol → Type 0 = λ ss. IsBlock 0 (map plain ss) c in
    record { text = it.text; grammar = subst G (sym it.symbols) shown }

-- the names and numbers of a program
abbrev pub content_of_program : ProgramParts → List Symbol
content_of_program p = content_declared p.declared ++ (content_listed p.outputs ++ content_used p.body)

pub program_content : {ts : List Marked} {p : ProgramParts} → IsProgram ts p → content ts ≡ content_of_program p
program_content (program {ts = ts} {us = us} {vs = vs} p decls outs body) =
    both ts (us ++ vs) (content_declared p.declared) (content_listed p.outputs ++ content_used p.body) (declarations_content decls)
    (both us vs (content_listed p.outputs) (content_used p.body) (outputs_content outs) (shared_content body))

program_has : (bytes : List ℕ) (p : ProgramParts) → SpellsProgram bytes p → IsContent p.names (content_of_program p)
program_has bytes p spells =
    let N : List (List ℕ) → Type 0 = λ l. IsContent l (content_of_program p) in
    let C : List Symbol → Type 0 = λ l. IsContent (names_of bytes) l in
    subst N (sym spells.names) (subst C (program_content spells.grammar) (text_content bytes))

-- a program that a text may have
record IsProgramText (p : ProgramParts) : Type 0 where
  declared : AreDeclaredTexts p.names p.declared
  outputs : AreTexts p.names p.outputs
  body : IsCode p.names p.body

program_text : (p : ProgramParts) → HasProgramText p → IsProgramText p
program_text p h =
    let d = content_declared p.declared in
    let x = content_listed p.outputs in
    let c = content_used p.body in
    let all = all_spelled p.names (content_of_program p) (program_has h.0 p h.1).all in
    let rest = right p.names d (x ++ c) all in
    record {
      declared = declared_written p.names p.declared (left p.names d (x ++ c) all);
      outputs = listed_written p.names p.outputs (left p.names x c rest);
      body = code_written p.names p.body (right p.names x c rest);
    }

-- each name of such a program has a text
pub program_has_names : (p : ProgramParts) → HasProgramText p → IsNamedProgram p
program_has_names p h =
    let it = program_text p h in
    record {
      declared = declared_named p.names p.declared it.declared;
      outputs = outputs_named p.names p.outputs it.outputs;
      body = code_named p.names p.body it.body;
    }

program_apart : (p : ProgramParts) → IsProgramText p → AreApart p.names (program_pieces p.declared p.outputs p.body)
unfolding program_pieces
program_apart p good =
    let d = declaration_pieces p.declared in
    let x = output_pieces p.outputs in
    let w = shared_pieces p.body in
    let P : List Piece → Type 0 = λ l. AreApart p.names l in
    subst P (append-nil (d ++ (x ++ w)))
    (both_apart p.names d (x ++ w) (declarations_apart p.names p.declared good.declared)
    (both_apart p.names x w (outputs_apart p.names p.outputs good.outputs) (shared_apart p.names p.body good.body)) [] tt)

program_fits : {ms : List Marked} {p : ProgramParts} → IsProgram ms p → IsClean ms → code_depth p.body ≤ 64 →
    IsProgram (marked (program_pieces p.declared p.outputs p.body)) p
unfolding program_pieces
program_fits (program {ts = ts} {us = us} {vs = vs} p decls outs body) clean deep =
    let d = declaration_pieces p.declared in
    let x = output_pieces p.outputs in
    let w = shared_pieces p.body in
    let fits = shared_fits body (clean_right us vs (clean_right ts (us ++ vs) clean)) (omega (arith, deep)) in
    let it = program p (declarations_shown p.declared) (some_outputs_shown p.outputs (some_outputs outs)) (shared_shown p.body fits) in
    let F : List Marked → Type 0 = λ ms. IsProgram ms p in
    subst F (ap (λ (ms : List Marked). marked d ++ ms) (sym (marked-append x w)) ∙ sym (marked-append d (x ++ w))) it

-- the canonical text of a program that some text spells, spells it
pub program_back : (p : ProgramParts) → HasProgramText p → code_depth p.body ≤ 64 →
    SpellsProgram (pieces_text p.names (program_pieces p.declared p.outputs p.body)) p
program_back p h deep =
    let ps = program_pieces p.declared p.outputs p.body in
    let cut = relexed p.names ps (program_apart p (program_text p h)) in
    let shown = program_fits h.1.grammar (clean_plain (symbols_of h.0)) deep in
    let again = pieces_again p.names ps (content_of_program p) (program_has h.0 p h.1) (program_content shown) cut in
    let G : List Symbol → Type 0 = λ ss. IsProgram (map plain ss) p in
    record { tokens = ap (λ (l : Lexed). l.1) cut; names = sym again.names_same; grammar = subst G (sym again.symbols_same) shown }
