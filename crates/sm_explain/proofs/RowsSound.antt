-- The lines of a cell, part by part.
use Rattle.sm_explain.proofs.Imports.{◌≡◌, ℕ, ℤ, Bool, false, List, [], ◌++◌, if◌then◌else◌, sym, ap, ◌∙◌, append_assoc, Copy, O, A, B, M, Cell, content, Store, agree, loses_change, adds_change, said_if, sentences, values_text, rows, cell_rows}
use Rattle.sm_explain.specs.Cells.{cell_text}

-- three texts behind another
pub put_three : (old p q new a b c : List ℕ) → p ≡ old ++ a → q ≡ p ++ b → new ≡ q ++ c → new ≡ old ++ (a ++ b ++ c)
put_three old p q new a b c first second third =
    third ∙ ap (λ (t : List ℕ). t ++ c) (second ∙ ap (λ (t : List ℕ). t ++ b) first ∙ append_assoc old a b)
    ∙ append_assoc old (a ++ b) c

-- five texts behind another
pub put_five : (old p q r s new a b c d e : List ℕ) → p ≡ old ++ a → q ≡ p ++ b → r ≡ q ++ c → s ≡ r ++ d → new ≡ s ++ e
    → new ≡ old ++ (a ++ b ++ c ++ d ++ e)
put_five old p q r s new a b c d e first second third fourth fifth =
    put_three old r s new (a ++ b ++ c) d e (put_three old p q r a b c first second third) fourth fifth

-- values that are equal
abbrev pub Same : ℤ → ℤ → Type 0
Same seen is = seen ≡ is

pub lost_same : (o v m o2 v2 m2 : ℤ) → Same o2 o → Same v2 v → Same m2 m → loses_change o2 v2 m2 ≡ loses_change o v m
lost_same o v m o2 v2 m2 eo ev em =
    ap (λ (x : ℤ). loses_change x v2 m2) eo ∙ ap (λ (x : ℤ). loses_change o x m2) ev ∙ ap (λ (x : ℤ). loses_change o v x) em

pub added_same : (o a b m o2 a2 b2 m2 : ℤ) → Same o2 o → Same a2 a → Same b2 b → Same m2 m → adds_change o2 a2 b2 m2 ≡ adds_change o a b m
added_same o a b m o2 a2 b2 m2 eo ea eb em =
    ap (λ (x : ℤ). adds_change x a2 b2 m2) eo ∙ ap (λ (x : ℤ). adds_change o x b2 m2) ea
    ∙ ap (λ (x : ℤ). adds_change o a x m2) eb ∙ ap (λ (x : ℤ). adds_change o a b x) em

-- words by an equal test
pub said : (old new words : List ℕ) (fails is : Bool) (seen : List ℕ) → fails ≡ is → seen ≡ words → new ≡ old ++ said_if fails seen
    → new ≡ old ++ said_if is words
said old new words fails is seen same text put =
    put ∙ ap (λ (b : Bool). old ++ said_if b seen) same ∙ ap (λ (t : List ℕ). old ++ said_if is t) text

-- the lines of a cell whose values differ
rows_else : (cell : List ℕ) (o a b m : ℤ) → agree o a b m ≡ false
    → cell ++ values_text o a b m ++ sentences o a b m ≡ rows cell o a b m
rows_else cell o a b m is =
    sym (ap (λ (t : Bool). if t then [] else cell ++ values_text o a b m ++ sentences o a b m) is)

rows_same : (names : List (List ℕ)) (end : Copy → Store) (cell : Cell) (o a b m : ℤ) → Same o (content (end O) cell)
    → Same a (content (end A) cell) → Same b (content (end B) cell) → Same m (content (end M) cell)
    → rows (cell_text names cell) o a b m ≡ cell_rows names end cell
rows_same names end cell o a b m eo ea eb em =
    let t = cell_text names cell in
    ap (λ (x : ℤ). rows t x a b m) eo ∙ ap (λ (x : ℤ). rows t (content (end O) cell) x b m) ea
    ∙ ap (λ (x : ℤ). rows t (content (end O) cell) (content (end A) cell) x m) eb
    ∙ ap (λ (x : ℤ). rows t (content (end O) cell) (content (end A) cell) (content (end B) cell) x) em

pub rows_put : (names : List (List ℕ)) (end : Copy → Store) (cell : Cell) (o a b m : ℤ) (old p q new : List ℕ)
    → Same o (content (end O) cell) → Same a (content (end A) cell) → Same b (content (end B) cell) → Same m (content (end M) cell)
    → agree o a b m ≡ false → p ≡ old ++ cell_text names cell → q ≡ p ++ values_text o a b m → new ≡ q ++ sentences o a b m
    → new ≡ old ++ cell_rows names end cell
rows_put names end cell o a b m old p q new eo ea eb em apart first second third =
    put_three old p q new (cell_text names cell) (values_text o a b m) (sentences o a b m) first second third
    ∙ ap (λ (t : List ℕ). old ++ t) (rows_else (cell_text names cell) o a b m apart ∙ rows_same names end cell o a b m eo ea eb em)
