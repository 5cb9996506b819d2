-- Where a text is refused, by the answer of the reading of its symbols and by its tokens.
use Rattle.sm_text.proofs.Imports.{◌≡◌, ℕ, ◌≤◌, refl, sym, ap, ◌∙◌, subst, arith, Some, None, Result, Ok, Err, List, [], length, drop, Symbol, Lexed, lexed, LexFault, Grammar, Source, all_symbols, text_from, whole_text, IsViable, IsRefusal, TextError, IsErrorOf, IsPlaceWith, at_fault, AreTokensOf, lexical_fault, rule_fault}
use Rattle.std.proofs.lemmas.List.{length-drop}
use Rattle.sm_syntax.specs.text.Symbols.{names_among, names_of}
use Rattle.sm_syntax.specs.declared.token.Token.{Token}
use Rattle.sm_text.specs.declared.rules.reading.Fault.{Fault}
use Rattle.sm_text.specs.declared.lexing.token_list.Tokens.{Tokens}
use Rattle.sm_text.specs.parsing.ErrorPlaces.{at_token, at_end}
use Rattle.sm_text.proofs.FirstFault.Refusals.{Judges}
use Rattle.sm_text.proofs.FirstFault.Ordered.{Ascends, from-ascends, place_from}
use Rattle.sm_text.proofs.FirstFault.Sound.{refused_at_token, refused_at_fault, refused_at_end, read_to_fault, left_within}

-- a reading that judges by a grammar, of symbols that are those of the source
module _ {A : Type 0} (read : List Symbol → Result A Fault) (spells : Grammar) (judges : Judges read spells) (source : Source)
    (ordered : Ascends 0 source.tokens source.fault source.end) (us : List Symbol) (same : us ≡ all_symbols source) where
  -- a lexical fault after what is read
  pub fault_behind : (a : A) → read us ≡ Ok a → IsViable spells us → (l : LexFault) → source.fault ≡ Some l → (x : TextError) →
      lexical_fault x ≡ Some l → IsRefusal spells source x
  fault_behind a e v l is x named =
      let F : List Symbol → Type 0 = λ ts. IsViable spells ts in
      read_to_fault read spells judges source ordered a (ap read (sym same) ∙ e) (subst F same v) l is x named

  -- the reading refuses the symbols with a fault, and these are the tokens
  module _ (f : Fault) (fails : read us ≡ Err f) (tokens : List Token) (cut : source.tokens ≡ tokens) where
    refused : read (all_symbols source) ≡ Err f
    refused = ap read (sym same) ∙ fails

    -- no more is left than there are tokens
    no_more_left : f.left ≤ length tokens
    no_more_left =
        let F : List Token → Type 0 = λ ts. f.left ≤ length ts in
        subst F cut (left_within read spells judges source ordered f refused)

    -- a refusal at a token
    token_refused : (place : ℕ) → IsPlaceWith f.left tokens place → (x : TextError) → x ≡ rule_fault f.kind place →
        IsRefusal spells source x
    token_refused place p x named =
        let F : ℕ → Type 0 = λ n. IsRefusal spells source (rule_fault f.kind n) in
        let G : TextError → Type 0 = λ y. IsRefusal spells source y in
        subst G (sym named) (subst F (sym p.same)
        (refused_at_token read spells judges source ordered f refused p.before p.behind p.here (cut ∙ p.cut) p.count))

    -- a refusal at a lexical fault
    fault_refused : (f.left ≤ length tokens → f.left ≡ 0) → (l : LexFault) → source.fault ≡ Some l → (x : TextError) →
        lexical_fault x ≡ Some l → IsRefusal spells source x
    fault_refused none l is x named = refused_at_fault read spells judges source ordered f refused (none no_more_left) l is x named

    -- a refusal at the end of the text
    end_refused : (f.left ≤ length tokens → f.left ≡ 0) → source.fault ≡ None → (x : TextError) → x ≡ rule_fault f.kind source.end →
        IsRefusal spells source x
    end_refused none is x named =
        let G : TextError → Type 0 = λ y. IsRefusal spells source y in
        subst G (sym named) (refused_at_end read spells judges source ordered f refused is (none no_more_left))

-- a whole text is that from its first token on
pub whole_from : (bytes : List ℕ) → text_from bytes 0 [] ≡ whole_text bytes
unfolding names_of names_among
whole_from bytes = refl

-- a fault that the reading of a text gives is its first one, and the error names it
module _ {A : Type 0} (read : List Symbol → Result A Fault) (spells : Grammar) (judges : Judges read spells) (bytes : List ℕ)
    (tokens : Tokens) (of : AreTokensOf bytes tokens) where
  -- of the symbols from a token on
  pub refused_from : (at : ℕ) (before : List (List ℕ)) (us : List Symbol) → us ≡ all_symbols (text_from bytes at before) → (f : Fault) →
      read us ≡ Err f → (x : TextError) → IsErrorOf f tokens (length bytes) x → IsRefusal spells (text_from bytes at before) x
  refused_from at before us same f e x named = by named
    where
      items : List Token
      items = tokens.list.items

      cut : drop at (lexed bytes).0 ≡ drop at items
      cut = ap (λ (l : Lexed). drop at l.0) (sym of)

      few : f.left ≤ length (drop at items)
      few = no_more_left read spells judges (text_from bytes at before) (from-ascends bytes at) us same f e (drop at items) cut

      none_left : (f.left ≤ length items → f.left ≡ 0) → f.left ≤ length (drop at items) → f.left ≡ 0
      none_left none h = let rest = length-drop at items in none (omega (arith, h, rest))

      by : IsErrorOf f tokens (length bytes) x → IsRefusal spells (text_from bytes at before) x
      by (at_token place p is) =
          token_refused read spells judges (text_from bytes at before) (from-ascends bytes at) us same f e (drop at items) cut place
          (place_from at f.left items place few p) x is
      by (at_fault l is names none) =
          fault_refused read spells judges (text_from bytes at before) (from-ascends bytes at) us same f e (drop at items) cut
          (none_left none) l (ap (λ (k : Lexed). k.1) (sym of) ∙ is) x names
      by (at_end is names none) =
          end_refused read spells judges (text_from bytes at before) (from-ascends bytes at) us same f e (drop at items) cut
          (none_left none) (ap (λ (k : Lexed). k.1) (sym of) ∙ is) x names

  -- of all symbols
  pub refused_whole : (us : List Symbol) → us ≡ all_symbols (whole_text bytes) → (f : Fault) → read us ≡ Err f → (x : TextError) →
      IsErrorOf f tokens (length bytes) x → IsRefusal spells (whole_text bytes) x
  refused_whole us same f e x named =
      let F : Source → Type 0 = λ source. us ≡ all_symbols source → IsRefusal spells source x in
      subst F (whole_from bytes) (λ all. refused_from 0 [] us all f e x named) same
