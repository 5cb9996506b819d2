-- What a parser reads of the symbols from a token on is what the grammar spells by the first tokens there.
use Rattle.sm_text.proofs.Imports.{◌≡◌, ℕ, ◌+◌, ◌-◌, ◌≤◌, Result, Ok, Err, List, ◌++◌, map, length, take, drop, take_all, sym, ap, ◌∙◌, subst, arith, take-append_seam, length-map, Marked, plain, Symbol, symbol_of, names_after, lexed, token_symbols, Parser, tokens_between, SpellsFrom, names_counted}
use Rattle.std.proofs.lemmas.List.{length-append, length-drop}
use Rattle.sm_syntax.specs.declared.token.Token.{Token}
use Rattle.sm_text.specs.rules.Parsers.{Fault}
use Rattle.sm_text.proofs.Numbering.Counted.{signs-take, signs-split, cut_names}
use Rattle.sm_text.proofs.Sound.Parsers.{Takes, Told, Describes}

-- where symbols that spell x spell y by another grammar, tokens that spell x do as well
pub respelled : {T U : Type 0} {G : List Marked → T → Type 0} {H : List Marked → U → Type 0} {bytes : List ℕ} {at : ℕ}
    {before : List (List ℕ)} {n : ℕ} {names : List (List ℕ)} {x : T} {y : U} → ((us : List Marked) → G us x → H us y) →
    SpellsFrom G bytes at before n names x → SpellsFrom H bytes at before n names y
respelled f s = record { begins = s.begins; ends = s.ends; numbered = s.numbered; grammar = f _ s.grammar }

-- a parser that reads what is spelled, whatever stands after it
abbrev pub ReadsAll : {T : Type 0} → Parser T → (List Marked → T → Type 0) → Type 0
ReadsAll {T} p G = (ss : List Symbol) (x : T) → G (map plain ss) x → (z : List Symbol) → p (ss ++ z) ≡ Ok (x, z)

-- the symbols of tokens are theirs, where the table has their names
pub signs-of : (bytes : List ℕ) (before names : List (List ℕ)) (tokens all : List Token) (symbols : List Symbol) →
    names ≡ names_after bytes before tokens → symbols ≡ map (symbol_of bytes names) tokens → tokens ≡ all →
    symbols ≡ token_symbols bytes before all
signs-of bytes before names tokens all symbols n s same =
    s ∙ ap (λ (l : List (List ℕ)). map (symbol_of bytes l) tokens) n ∙ ap (token_symbols bytes before) same

-- all tokens after a number
pub rest_of : (at : ℕ) (ts : List Token) → take (length ts - at) (drop at ts) ≡ drop at ts
rest_of at ts = let rest = length-drop at ts in take_all (length ts - at) (drop at ts) (omega (arith, rest))

answer_same : {T : Type 0} (x y : T × List Symbol) → (let a : Result (T × List Symbol) Fault = Ok x in a) ≡ Ok y → x ≡ y
answer_same x y e = cc

answer_not : {T : Type 0} (f : Fault) (x : T × List Symbol) → (let a : Result (T × List Symbol) Fault = Err f in a) ≡ Ok x → ⊥
answer_not f x e = cc

module _ {T : Type 0} (p : Parser T) (G : List Marked → T → Type 0) (bytes : List ℕ) (before : List (List ℕ)) where
  pub taken : (ts : List Token) (x : T) (after : List Symbol) → Describes p G → p (token_symbols bytes before ts) ≡ Ok (x, after) →
      Takes p G (token_symbols bytes before ts) x after
  taken ts x after told e =
      let F : Result (T × List Symbol) Fault → Type 0 = λ a. Told p G (token_symbols bytes before ts) a in
      subst F e (told.tells (token_symbols bytes before ts))

  -- what is left is no longer than the tokens
  pub left_within : (ts : List Token) (x : T) (after : List Symbol) → Describes p G → p (token_symbols bytes before ts) ≡ Ok (x, after) →
      length after ≤ length ts
  left_within ts x after told e =
      let k = taken ts x after told e in
      let all : length ts ≡ length (k.used ++ after) =
      sym (length-map ts (symbol_of bytes (names_after bytes before ts))) ∙ ap (λ (l : List Symbol). length l) k.split in
      let sum : length (k.used ++ after) ≡ length k.used + length after = length-append k.used after in
      omega (arith, all, sum)

  -- what is read of tokens is spelled by the first of them
  first_read : (ts : List Token) (x : T) (after : List Symbol) (m : ℕ) → Describes p G → p (token_symbols bytes before ts) ≡ Ok (x, after) →
      m + length after ≡ length ts → G (map plain (token_symbols bytes before (take m ts))) x
  first_read ts x after m told e count =
      let k = taken ts x after told e in
      let all : length ts ≡ length (k.used ++ after) =
      sym (length-map ts (symbol_of bytes (names_after bytes before ts))) ∙ ap (λ (l : List Symbol). length l) k.split in
      let sum : length (k.used ++ after) ≡ length k.used + length after = length-append k.used after in
      let size : length k.used ≡ m = omega (arith, all, sum, count) in
      let used : k.used ≡ token_symbols bytes before (take m ts) =
      sym (take-append_seam k.used after) ∙ ap (take (length k.used)) (sym k.split)
      ∙ ap (λ (n : ℕ). take n (token_symbols bytes before ts)) size ∙ signs-take bytes before m ts in
      let F : List Symbol → Type 0 = λ l. G (map plain l) x in
      subst F used k.fits

  pub spelled : (at : ℕ) (x : T) (after : List Symbol) (names : List (List ℕ)) → Describes p G → at ≤ length (lexed bytes).0 →
      p (token_symbols bytes before (drop at (lexed bytes).0)) ≡ Ok (x, after)
      → names ≡ names_after bytes before (tokens_between at (length (lexed bytes).0 - length after) (lexed bytes).0) →
      SpellsFrom G bytes at before (length (lexed bytes).0 - length after) names x
  spelled at x after names told within e numbered =
      let tokens = (lexed bytes).0 in
      let ts = drop at tokens in
      let n = length tokens - length after in
      let rest : length ts ≡ length tokens - at = length-drop at tokens in
      let fewer = left_within ts x after told e in
      let G' : List (List ℕ) → Type 0 = λ l. G (map plain (map (symbol_of bytes l) (tokens_between at n tokens))) x in
      record {
        begins = omega (arith, rest, fewer, within);
        ends = omega arith;
        numbered = numbered;
        grammar = subst G' (sym numbered) (first_read ts x after (n - at) told e (omega (arith, rest, fewer, within)));
      }

  -- an answer is spelled by the first tokens, with the table cut to the names its symbols count
  pub answered : (at : ℕ) (x : T) (after symbols : List Symbol) (table names : List (List ℕ)) (used n : ℕ) → Describes p G →
      at ≤ length (lexed bytes).0 → symbols ≡ token_symbols bytes before (drop at (lexed bytes).0) → p symbols ≡ Ok (x, after)
      → used ≡ length symbols - length after → n ≡ length (lexed bytes).0 - length after →
      table ≡ names_after bytes before (drop at (lexed bytes).0)
      → names ≡ take (names_counted (length before) (take used symbols)) table → SpellsFrom G bytes at before n names x
  answered at x after symbols table names used n told within same e count number all cut =
      let tokens = (lexed bytes).0 in
      let ts = drop at tokens in
      let read = ap p (sym same) ∙ e in
      let fewer = left_within ts x after told read in
      let size : length symbols ≡ length ts =
      ap (λ (l : List Symbol). length l) same ∙ length-map ts (symbol_of bytes (names_after bytes before ts)) in
      let rest : length ts ≡ length tokens - at = length-drop at tokens in
      let so_many : used ≡ (length tokens - length after) - at = omega (arith, count, size, rest, fewer, within) in
      let numbered : names ≡ names_after bytes before (tokens_between at (length tokens - length after) tokens) =
      cut_names bytes before used ts symbols table names same all cut ∙ ap (λ (k : ℕ). names_after bytes before (take k ts)) so_many in
      let F : ℕ → Type 0 = λ k. SpellsFrom G bytes at before k names x in
      subst F (sym number) (spelled at x after names told within read numbered)

  -- what the first tokens spell is read, and the number after them is that of the symbols that are left
  pub read_it : (at n : ℕ) (names : List (List ℕ)) (x : T) → ReadsAll p G → SpellsFrom G bytes at before n names x →
      (z : List Symbol) × (p (token_symbols bytes before (drop at (lexed bytes).0)) ≡ Ok (x, z)) × (n ≡ length (lexed bytes).0 - length z)
  read_it at n names x reads s =
      let tokens = (lexed bytes).0 in
      let ts = drop at tokens in
      let m = n - at in
      let G' : List (List ℕ) → Type 0 = λ l. G (map plain (map (symbol_of bytes l) (take m ts))) x in
      let more = signs-split bytes before m ts in
      let size = more.2 in
      let rest : length ts ≡ length tokens - at = length-drop at tokens in (
        more.0,
        ap p more.1 ∙ reads (token_symbols bytes before (take m ts)) x (subst G' s.numbered s.grammar) more.0,
        omega (arith, size, rest, s.begins, s.ends),
      )

  -- so an answer is what they spell
  pub read_same : (at n : ℕ) (names : List (List ℕ)) (x y : T) (after : List Symbol) → ReadsAll p G →
      SpellsFrom G bytes at before n names x → p (token_symbols bytes before (drop at (lexed bytes).0)) ≡ Ok (y, after) →
      (y ≡ x) × (length (lexed bytes).0 - length after ≡ n)
  read_same at n names x y after reads s e =
      let it = read_it at n names x reads s in
      let same = answer_same (y, after) (x, it.0) (sym e ∙ it.1) in
      (ap (λ (a : T × List Symbol). a.0) same, ap (λ (a : T × List Symbol). length (lexed bytes).0 - length a.1) same ∙ sym it.2)

  -- what the first tokens spell isn't refused
  pub read_not_refused : (at n : ℕ) (names : List (List ℕ)) (x : T) (f : Fault) → ReadsAll p G → SpellsFrom G bytes at before n names x →
      p (token_symbols bytes before (drop at (lexed bytes).0)) ≡ Err f → ⊥
  read_not_refused at n names x f reads s e = let it = read_it at n names x reads s in answer_not f (x, it.0) (sym e ∙ it.1)
