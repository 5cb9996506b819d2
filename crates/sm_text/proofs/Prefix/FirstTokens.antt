-- What a parser reads of the first tokens it reads of them all. What it refuses before their end it refuses of them all.
use Rattle.sm_text.proofs.Imports.{◌≡◌, ℕ, ◌+◌, ◌-◌, ◌≤◌, refl, sym, ap, ◌∙◌, subst, arith, Result, Ok, Err, List, [], ◌∷◌, ◌++◌, length, take, drop, append_assoc, length-map, length-take-le, take-take, Marked, Symbol, IsBlock, symbol_of, names_after, Code, lexed, token_symbols, IsFirstBlock, names_counted, Parser, first, Grammar, SpellsBlockAt}
use Rattle.std.proofs.Common.{length-append}
use Rattle.std.proofs.lemmas.List.{length-drop}
use Rattle.sm_syntax.specs.declared.token.Token.{Token}
use Rattle.sm_text.specs.rules.Parsers.{Fault}
use Rattle.sm_text.specs.rules.Reading as r
use Rattle.sm_text.proofs.Numbering.Counted.{signs-split, cut_names}
use Rattle.sm_text.proofs.Prefix.Judged.{block_judges}
use Rattle.sm_text.proofs.Prefix.Exact.{any_block_told, block_reads}
use Rattle.sm_text.proofs.Prefix.Sound.{ReadsAll, taken, left_within, spelled, read_same}
use Rattle.sm_text.proofs.FirstFault.Refusals.{Judges}
use Rattle.sm_text.proofs.Sound.Parsers.{Stops, Told, Describes}

length-both : (us vs : List Symbol) → length (us ++ vs) ≡ length us + length vs
length-both us vs = rw length-append refl

-- no more symbols are left where a reading refuses than there are
symbols_left : {A : Type 0} {read : List Symbol → Result A Fault} {spells : Grammar} → Judges read spells → (us : List Symbol) (f : Fault) →
    read us ≡ Err f → f.left ≤ length us
symbols_left judges us f e =
    let k = judges.refuses us f e in
    let left : f.left ≡ length k.here = ap (λ (g : Fault). g.left) k.place in
    let sum : length us ≡ length k.used + length k.here = ap (λ (l : List Symbol). length l) k.split ∙ length-both k.used k.here in
    omega (arith, left, sum)

pub none_left : (z : List Symbol) → length z ≡ 0 → z ≡ []
none_left [] e = refl
none_left (u ∷ us) e = absurd (omega (arith, e))

-- the symbol that stands first stays where others stand after it
first_stays : (here z : List Symbol) → (length here ≡ 0 → length z ≡ 0) → first (here ++ z) ≡ first here
first_stays [] z none = ap first (none_left z (none refl))
first_stays (u ∷ us) z none = refl

module _ {T : Type 0} (p : Parser T) (G : List Marked → T → Type 0) (told : Describes p G) (bytes : List ℕ) (before : List (List ℕ)) (m : ℕ)
    (ts : List Token) where
  -- what is read
  read_of_all : ReadsAll p G → (x : T) (after : List Symbol) → p (token_symbols bytes before (take m ts)) ≡ Ok (x, after) →
      (all : List Symbol) × (p (token_symbols bytes before ts) ≡ Ok (x, all)) × (length all ≡ length after + (length ts - m))
  read_of_all reads x after e =
      let k = taken p G bytes before (take m ts) x after told e in
      let more = signs-split bytes before m ts in
      let z = more.0 in
      let line : token_symbols bytes before ts ≡ k.used ++ (after ++ z) =
      more.1 ∙ ap (λ (l : List Symbol). l ++ z) k.split ∙ append_assoc k.used after z in
      (after ++ z, ap p line ∙ reads k.used x k.fits (after ++ z), length-both after z ∙ ap (λ (n : ℕ). length after + n) more.2)

  -- what is refused
  pub refused_of_all : (f : Fault) → p (token_symbols bytes before (take m ts)) ≡ Err f → (f.left ≡ 0 → length ts - m ≡ 0) →
      p (token_symbols bytes before ts) ≡ Err (record { kind = f.kind; left = f.left + (length ts - m) })
  refused_of_all f e some_left =
      let F : Result (T × List Symbol) Fault → Type 0 = λ a. Told p G (token_symbols bytes before (take m ts)) a in
      let k : Stops p G (token_symbols bytes before (take m ts)) f = subst F e (told.tells (token_symbols bytes before (take m ts))) in
      let more = signs-split bytes before m ts in
      let z = more.0 in
      let left : f.left ≡ length k.here = ap (λ (g : Fault). g.left) k.place in
      let line : token_symbols bytes before ts ≡ k.used ++ (k.here ++ z) =
      more.1 ∙ ap (λ (l : List Symbol). l ++ z) k.split ∙ append_assoc k.used k.here z in
      let size : length (k.here ++ z) ≡ f.left + (length ts - m) =
      length-both k.here z ∙ ap (λ (n : ℕ). n + length z) (sym left) ∙ ap (λ (n : ℕ). f.left + n) more.2 in
      let stays = first_stays k.here z (λ none. more.2 ∙ some_left (left ∙ none)) in
      ap p line ∙ k.again (k.here ++ z) stays ∙ ap (λ (n : ℕ). Err (let g : Fault = record { kind = f.kind; left = n } in g)) size

-- a block that the first tokens begin with is that of them all
pub first_of_all : (bytes : List ℕ) (before : List (List ℕ)) (groups m : ℕ) (ts : List Token) (names : List (List ℕ)) (c : Code)
    (left all : ℕ) → m ≤ length ts → IsFirstBlock bytes before groups (take m ts) names c left → all ≡ left + (length ts - m) →
    IsFirstBlock bytes before groups ts names c all
first_of_all bytes before groups m ts names c left all within k same =
    let told = any_block_told groups in
    let whole = read_of_all (r.block (64 - groups)) (IsBlock groups) told bytes before m ts (block_reads groups) c k.after k.read in
    let fewer = left_within (r.block (64 - groups)) (IsBlock groups) bytes before (take m ts) c k.after told k.read in
    let size = length-take-le m ts within in
    let cut : take (length (take m ts) - left) (take m ts) ≡ take (length ts - all) ts =
    take-take (length (take m ts) - left) m ts (omega (arith, size))
    ∙ ap (λ (n : ℕ). take n ts) (omega (arith, size, same, within, fewer, k.count)) in
    record {
      after = whole.0;
      read = whole.1;
      count = same ∙ ap (λ (n : ℕ). n + (length ts - m)) k.count ∙ sym whole.2;
      numbered = k.numbered ∙ ap (names_after bytes before) cut;
    }

module _ (bytes : List ℕ) (before : List (List ℕ)) (groups : ℕ) (ts : List Token) where
  -- a block that is read of the symbols of tokens, with the table cut to the names that its symbols count
  pub first_read : (c : Code) (after symbols : List Symbol) (table names : List (List ℕ)) (used : ℕ) →
      symbols ≡ token_symbols bytes before ts → r.block (64 - groups) symbols ≡ Ok (c, after) → used ≡ length symbols - length after →
      table ≡ names_after bytes before ts
      → names ≡ take (names_counted (length before) (take used symbols)) table → IsFirstBlock bytes before groups ts names c (length after)
  first_read c after symbols table names used same e count all cut =
      let read = ap (r.block (64 - groups)) (sym same) ∙ e in
      let size : length symbols ≡ length ts =
      ap (λ (l : List Symbol). length l) same ∙ length-map ts (symbol_of bytes (names_after bytes before ts)) in
      record {
        after = after;
        read = read;
        count = refl;
        numbered = cut_names bytes before used ts symbols table names same all cut
            ∙ ap (λ (n : ℕ). names_after bytes before (take n ts)) (count ∙ ap (λ (n : ℕ). n - length after) size);
      }

  -- no more stand after it than there are
  pub first_within : (names : List (List ℕ)) (c : Code) (left : ℕ) → IsFirstBlock bytes before groups ts names c left → left ≤ length ts
  first_within names c left k =
      let fewer = left_within (r.block (64 - groups)) (IsBlock groups) bytes before ts c k.after (any_block_told groups) k.read in
      omega (arith, fewer, k.count)

  -- no more are left where none begins
  pub refused_within : (f : Fault) → r.block (64 - groups) (token_symbols bytes before ts) ≡ Err f → f.left ≤ length ts
  refused_within f e =
      let left = symbols_left (block_judges groups) (token_symbols bytes before ts) f e in
      let size = length-map ts (symbol_of bytes (names_after bytes before ts)) in
      omega (arith, left, size)

-- a block that the tokens from a number on begin with is spelled there
pub first_spelled : (bytes : List ℕ) (before : List (List ℕ)) (groups at left number : ℕ) (names : List (List ℕ)) (c : Code) →
    at ≤ length (lexed bytes).0 → IsFirstBlock bytes before groups (drop at (lexed bytes).0) names c left →
    number ≡ length (lexed bytes).0 - left → SpellsBlockAt bytes at groups before number names c
first_spelled bytes before groups at left number names c within k same =
    let tokens = (lexed bytes).0 in
    let rest : length (drop at tokens) ≡ length tokens - at = length-drop at tokens in
    let many : length (drop at tokens) - left ≡ (length tokens - length k.after) - at = omega (arith, rest, k.count) in
    let F : ℕ → Type 0 = λ n. SpellsBlockAt bytes at groups before n names c in
    subst F (sym (same ∙ ap (λ (n : ℕ). length tokens - n) k.count))
    (spelled (r.block (64 - groups)) (IsBlock groups) bytes before at c k.after names (any_block_told groups) within k.read
    (k.numbered ∙ ap (λ (n : ℕ). names_after bytes before (take n (drop at tokens))) many))

-- each block that is spelled there is that one
pub first_same : (bytes : List ℕ) (before : List (List ℕ)) (groups at left number n : ℕ) (names others : List (List ℕ)) (c d : Code) →
    IsFirstBlock bytes before groups (drop at (lexed bytes).0) names c left → number ≡ length (lexed bytes).0 - left →
    SpellsBlockAt bytes at groups before n others d → (c ≡ d) × (number ≡ n)
first_same bytes before groups at left number n names others c d k same spells =
    let it = read_same (r.block (64 - groups)) (IsBlock groups) bytes before at n others d c k.after (block_reads groups) spells k.read in
    (it.0, same ∙ ap (λ (m : ℕ). length (lexed bytes).0 - m) k.count ∙ it.1)
