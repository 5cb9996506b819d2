-- A text in the grammar has no fault: its symbols can go on up to the end, are something whole, and nest nowhere too deep.
use Rattle.sm_text.proofs.Imports.{◌≡◌, ℕ, refl, sym, ap, ◌∙◌, subst, Option, Some, None, Result, Ok, Err, List, [], ◌∷◌, ◌++◌, map, append_assoc, map-append, plain, Symbol, Parts, IsInGrammar, names_of, symbols_of, Source, AreTasks, IsViable, IsWhole, IsUnexpected, NestsTooDeep, Stands, IsFault, all_symbols, whole_text, TextError, NoFaultInGrammar}
use Rattle.std.proofs.lemmas.List.{append-nil}
use Rattle.sm_syntax.specs.declared.token.Token.{Token}
use Rattle.sm_text.specs.declared.error.TextError.TheVariants as error
use Rattle.sm_text.specs.parsing.Places.{at_token, at_end}
use Rattle.sm_text.specs.rules.Reading as r
use Rattle.sm_text.proofs.Complete.Parsers.{unmarked-plain}
use Rattle.sm_text.proofs.Complete.Tasks.{spelled_read}
use Rattle.sm_text.proofs.FirstFault.Ordered.{symbols-map}
use Rattle.sm_text.proofs.FirstFault.Judged.{task_judges}
use Rattle.sm_text.proofs.FirstFault.Refusals.{shorter-viable, nothing_nests}

none_is_some : {T : Type 0} (x : T) → (let o : Option T = None in o) ≡ Some x → ⊥
none_is_some x e = cc

some_one : (u v : Symbol) → Some u ≡ Some v → u ≡ v
some_one u v e = cc

ok_is_err : {A E : Type 0} (x : A) (f : E) → (let a : Result A E = Ok x in a) ≡ Err f → ⊥
ok_is_err x f e = cc

module _ (bytes : List ℕ) (t : Parts) (p : IsInGrammar bytes t) where
  abbrev source : Source
  source = whole_text bytes

  abbrev symbols : List Symbol
  symbols = all_symbols source

  whole : IsWhole AreTasks symbols
  whole = record {
    spelled = map plain (symbols_of bytes);
    grammar = (t, p.grammar);
    all = unmarked-plain (symbols_of bytes) ∙ symbols-map bytes;
  }

  can_go_on : IsViable AreTasks symbols
  can_go_on = record { spelled = whole.spelled; grammar = whole.grammar; more = []; begins = whole.all ∙ sym (append-nil symbols) }

  is_read : r.whole (names_of bytes) symbols ≡ Ok t
  is_read = spelled_read bytes t (names_of bytes) symbols p refl (sym (symbols-map bytes))

  -- the symbols before a token, its own, and those after it
  around : (before behind : List Token) (u : Token) → source.tokens ≡ before ++ u ∷ behind →
      symbols ≡ map source.symbol before ++ source.symbol u ∷ map source.symbol behind
  around before behind u cut = ap (λ (l : List Token). map source.symbol l) cut ∙ map-append source.symbol before (u ∷ behind)

  expected : (place : ℕ) (before : List Symbol) (next : Option Symbol) → Stands source place before next →
      IsUnexpected AreTasks before next → ⊥
  expected place before next (at_token us vs u cut) x =
      let before = map source.symbol us in
      let behind = map source.symbol vs in
      let line = around us vs u cut ∙ sym (append_assoc before (source.symbol u ∷ []) behind) in
      x.1 (shorter-viable (before ++ source.symbol u ∷ []) behind symbols line can_go_on)
  expected place before next (at_end none) x = x.1 whole

  nested : (place : ℕ) (before : List Symbol) (next : Option Symbol) → Stands source place before next → (v : Symbol) → next ≡ Some v →
      NestsTooDeep AreTasks before v → ⊥
  nested place before next (at_token us vs u cut) v same x =
      let F : Symbol → Type 0 = λ s. NestsTooDeep AreTasks (map source.symbol us) s in
      nothing_nests (r.whole (names_of bytes)) AreTasks (task_judges (names_of bytes)) symbols symbols [] (sym (append-nil symbols))
      (λ f e. absurd (ok_is_err t f (sym is_read ∙ e))) (map source.symbol us) (map source.symbol vs) (source.symbol u)
      (around us vs u cut) (subst F (sym (some_one (source.symbol u) v same)) x)
  nested place before next (at_end none) v same x = none_is_some v same

  pub faultless : (e : TextError) → IsFault AreTasks source e → ⊥
  faultless (error.BadByte place) x = none_is_some _ (sym p.tokens ∙ x)
  faultless (error.WideNumber place) x = none_is_some _ (sym p.tokens ∙ x)
  faultless (error.BadToken place) x = none_is_some _ (sym p.tokens ∙ x)
  faultless (error.Expected place) x = expected place x.before x.next x.stands x.unexpected
  faultless (error.Nested place) x = nested place x.before (Some x.next) x.stands x.next refl x.nests
  faultless error.Memory x = absurd x

pub no_fault_in_grammar : NoFaultInGrammar
no_fault_in_grammar bytes t e p x = faultless bytes t p e x
