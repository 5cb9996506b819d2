-- The canonical text of a task that some text spells, spells it again.
use Rattle.sm_text.proofs.Imports.{◌≡◌, ℕ, None, List, [], ◌∷◌, map, refl, sym, ap, ◌∙◌, subst, AllByRecursion, slice_get, plain, Symbol, IsTask, Parts, Spells, with_text, names_of, symbols_of, Lexed, lexed, task_pieces, HasText, pieces_text, symbols_in}
use Rattle.std.specs.Prelude.{unwrap_or}
use Rattle.sm_syntax.specs.declared.symbol.Symbol.TheVariants as s
use Rattle.sm_text.specs.printing.Pieces.{Piece}
use Rattle.sm_text.proofs.RoundTrip.CodeSpelled.{marked}
use Rattle.sm_text.proofs.RoundTrip.TaskSpelled.{task_shown}
use Rattle.sm_text.proofs.RoundTrip.TextTokens.{tokens_at}
use Rattle.sm_text.proofs.RoundTrip.TaskApart.{IsTaskText, task_relexed}
use Rattle.sm_text.proofs.RoundTrip.Content.{content, content_of_task, task_content}
use Rattle.sm_text.proofs.RoundTrip.Printable.{task_printable}
use Rattle.sm_text.proofs.RoundTrip.Spelled.{IsNamed, AllSpelled, task_written, task_named}
use Rattle.sm_text.proofs.RoundTrip.Symbols.{names_by, IsIn, IsAgain, text_symbols, text_names, printed_again}

-- the symbols, each of which a text has
abbrev pub AllIn : List (List ℕ) → List Symbol → Type 0
AllIn names ss = AllByRecursion (IsIn names) ss

pub all_spelled : (names : List (List ℕ)) (ss : List Symbol) → AllIn names ss → AllSpelled names ss
all_spelled names [] h = tt
all_spelled names (t ∷ ss) h = (h.0.spelled, all_spelled names ss h.1)

-- the names and numbers among symbols say as much of names as the symbols
pub content_in : (names : List (List ℕ)) (ss : List Symbol) → AllIn names ss → AllIn names (content (map plain ss))
content_in names [] h = tt
content_in names (s.Mark m ∷ ss) h = content_in names ss h.1
content_in names (s.Number z ∷ ss) h = (h.0, content_in names ss h.1)
content_in names (s.Name x ∷ ss) h = (h.0, content_in names ss h.1)

pub content_all : (names : List (List ℕ)) (ss : List Symbol) → AllIn names (content (map plain ss)) → AllIn names ss
content_all names [] h = tt
content_all names (s.Mark m ∷ ss) h = (record { spelled = tt; own = tt; among = tt }, content_all names ss h)
content_all names (s.Number z ∷ ss) h = (h.0, content_all names ss h.1)
content_all names (s.Name x ∷ ss) h = (h.0, content_all names ss h.1)

pub names_by-content : (names before : List (List ℕ)) (ss : List Symbol) →
    names_by names before (content (map plain ss)) ≡ names_by names before ss
names_by-content names before [] = refl
names_by-content names before (s.Mark m ∷ ss) = names_by-content names before ss
names_by-content names before (s.Number z ∷ ss) = names_by-content names before ss
names_by-content names before (s.Name x ∷ ss) = names_by-content names (with_text before (unwrap_or (slice_get names x.0) [])) ss

-- what a text has of names and numbers, where these are the texts of its names
pub record IsContent (names : List (List ℕ)) (ss : List Symbol) : Type 0 where
  pub all : AllIn names ss
  pub numbered : names_by names [] ss ≡ names

pub text_content : (bytes : List ℕ) → IsContent (names_of bytes) (content (map plain (symbols_of bytes)))
text_content bytes = record {
  all = content_in (names_of bytes) (symbols_of bytes) (text_symbols bytes);
  numbered = names_by-content (names_of bytes) [] (symbols_of bytes) ∙ text_names bytes;
}

-- pieces with the content of a text, whose tokens are cut as they were put
pub pieces_again : (names : List (List ℕ)) (ps : List Piece) (ss : List Symbol) → IsContent names ss → content (marked ps) ≡ ss →
    lexed (pieces_text names ps) ≡ (tokens_at names 0 ps, None) → IsAgain names ps
pieces_again names ps ss has same cut =
    let A : List Symbol → Type 0 = λ l. AllIn names l in
    printed_again names ps cut (content_all names (symbols_in ps) (subst A (sym same) has.all))
    (sym (names_by-content names [] (symbols_in ps)) ∙ ap (names_by names []) same ∙ has.numbered)

-- the content of a task that a text spells
spelled_content : (bytes : List ℕ) (t : Parts) → Spells bytes t → IsContent t.names (content_of_task t)
spelled_content bytes t spells =
    let N : List (List ℕ) → Type 0 = λ l. IsContent l (content_of_task t) in
    let C : List Symbol → Type 0 = λ l. IsContent (names_of bytes) l in
    subst N (sym spells.text.names) (subst C (task_content spells.text.grammar) (text_content bytes))

spelled_text : (bytes : List ℕ) (t : Parts) → Spells bytes t → IsTaskText t.names t
spelled_text bytes t spells = task_written t.names t (all_spelled t.names (content_of_task t) (spelled_content bytes t spells).all)

-- each name of such a task has a text
pub spelled_named : (t : Parts) → HasText t → IsNamed t
spelled_named t h = task_named t (spelled_text h.0 t h.1)

-- the canonical text of a task that some text spells, spells it
pub reads_back : (t : Parts) → HasText t → Spells (pieces_text t.names (task_pieces t)) t
reads_back t h =
    let ps = task_pieces t in
    let cut = task_relexed t.names t (spelled_text h.0 t h.1) in
    let shown = task_shown t (task_printable (symbols_of h.0) t h.1.text.grammar h.1.valid) in
    let again = pieces_again t.names ps (content_of_task t) (spelled_content h.0 t h.1) (task_content shown) cut in
    let G : List Symbol → Type 0 = λ ss. IsTask (map plain ss) t in
    record {
      text = record {
        tokens = ap (λ (l : Lexed). l.1) cut;
        names = sym again.names_same;
        grammar = subst G (sym again.symbols_same) shown;
      };
      valid = h.1.valid;
    }
