-- Lines that make formulas, as rows.
use Rattle.sm_check.proofs.Imports.{◌≡◌, ℕ, zero, suc, ◌+◌, min, max, Bool, Option, Some, None, Result, Ok, Err, List, [], ◌∷◌, length, refl, sym, ap, ◌∙◌, subst, arith, same_Some, Tree, Assertion, tree_at, TermId, followed, found_or, tested_or, Word, BadNumber, First, form_about, form_from, Sorts, form_nodes, form_depth, row_form, RowStands, RowsStand, TellsRows, Tells, terms_in}
use Rattle.std.proofs.Common.{slice_get}
use Rattle.sm_proof.specs.declared.word.Head.TheVariants as head
use Rattle.sm_check.specs.FormRows.{joined, FormRow}

-- a term that a line made
pub named_there : (trees : List Tree) (terms : List TermId) (n : ℕ) (t : TermId) → slice_get terms n ≡ Some t →
    slice_get (terms_in trees terms) n ≡ Some (tree_at trees t.0)
named_there trees [] n t e = absurd cc
named_there trees (u ∷ us) zero t e = ap (λ (v : TermId). Some (tree_at trees v.0)) (same_Some u t e)
named_there trees (u ∷ us) (suc n) t e = named_there trees us n t e

-- a place at which no line made a term has no tree
pub named_missing : (trees : List Tree) (terms : List TermId) (n : ℕ) → slice_get terms n ≡ None → slice_get (terms_in trees terms) n ≡ None
named_missing trees [] n e = refl
named_missing trees (u ∷ us) zero e = absurd cc
named_missing trees (u ∷ us) (suc n) e = named_missing trees us n e

-- something is found
pub found_there : {S T : Type 0} (o : Option S) (w : Word) (next : S → Result T Word) (s : S) → o ≡ Some s → found_or o w next ≡ next s
found_there None w next s e = absurd cc
found_there (Some r) w next s e = ap next (same_Some r s e)

pub found_missing : {S T : Type 0} (o : Option S) (w : Word) (next : S → Result T Word) → o ≡ None → found_or o w next ≡ Err w
found_missing None w next e = refl
found_missing (Some r) w next e = absurd cc

module _ (trees : List Tree) (terms : List TermId) (t u : ℕ) (test : Tree → Tree → Bool) (makes : Tree → Tree → Assertion) where
  abbrev rest : Tree → Result Assertion Word
  rest a = found_or (slice_get (terms_in trees terms) u) BadNumber (λ (b : Tree). tested_or (test a b) (First head.P) (Ok (makes a b)))

  pub about_without_first : slice_get terms t ≡ None → form_about (terms_in trees terms) t u test makes ≡ Err BadNumber
  about_without_first e = found_missing (slice_get (terms_in trees terms) t) BadNumber rest (named_missing trees terms t e)

  pub about_without_second : (a : TermId) → slice_get terms t ≡ Some a → slice_get terms u ≡ None →
      form_about (terms_in trees terms) t u test makes ≡ Err BadNumber
  about_without_second a e f =
      found_there (slice_get (terms_in trees terms) t) BadNumber rest (tree_at trees a.0) (named_there trees terms t a e)
      ∙ found_missing (slice_get (terms_in trees terms) u) BadNumber
      (λ (c : Tree). tested_or (test (tree_at trees a.0) c) (First head.P) (Ok (makes (tree_at trees a.0) c)))
      (named_missing trees terms u f)

-- what one list has at a place another of its length has too
pub there_too : {S T : Type 0} (xs : List S) (ys : List T) (n : ℕ) (x : S) → length xs ≡ length ys → slice_get xs n ≡ Some x →
    (y : T) × (slice_get ys n ≡ Some y)
there_too [] ys n x same e = absurd cc
there_too (z ∷ xs) [] n x same e = absurd (omega arith)
there_too (z ∷ xs) (y ∷ ys) zero x same e = (y, refl)
there_too (z ∷ xs) (y ∷ ys) (suc n) x same e = let less : length xs ≡ length ys = omega arith in there_too xs ys n x less e

pub missing_too : {S T : Type 0} (xs : List S) (ys : List T) (n : ℕ) → length xs ≡ length ys → slice_get xs n ≡ None → slice_get ys n ≡ None
missing_too [] [] n same e = refl
missing_too [] (y ∷ ys) n same e = absurd (omega arith)
missing_too (z ∷ xs) [] n same e = absurd (omega arith)
missing_too (z ∷ xs) (y ∷ ys) zero same e = absurd cc
missing_too (z ∷ xs) (y ∷ ys) (suc n) same e = let less : length xs ≡ length ys = omega arith in missing_too xs ys n less e

module _ (forms : List Assertion) (p q : ℕ) (makes : Assertion → Assertion → Assertion) where
  abbrev second : Assertion → Result Assertion Word
  second f = found_or (slice_get forms q) BadNumber (λ (g : Assertion). Ok (makes f g))

  pub from_there : (f g : Assertion) → slice_get forms p ≡ Some f → slice_get forms q ≡ Some g → form_from forms p q makes ≡ Ok (makes f g)
  from_there f g e h =
      found_there (slice_get forms p) BadNumber second f e ∙ found_there (slice_get forms q) BadNumber (λ (k : Assertion). Ok (makes f k)) g h

  pub from_without_first : slice_get forms p ≡ None → form_from forms p q makes ≡ Err BadNumber
  from_without_first e = found_missing (slice_get forms p) BadNumber second e

  pub from_without_second : (f : Assertion) → slice_get forms p ≡ Some f → slice_get forms q ≡ None → form_from forms p q makes ≡ Err BadNumber
  from_without_second f e h =
      found_there (slice_get forms p) BadNumber second f e ∙ found_missing (slice_get forms q) BadNumber (λ (k : Assertion). Ok (makes f k)) h

-- a formula of two parts
pub joined_there : (forms : List Assertion) (p q : ℕ) (makes : Assertion → Assertion → Assertion) (f g : Assertion) →
    slice_get forms p ≡ Some f → slice_get forms q ≡ Some g →
    joined forms p q makes ≡ Some (makes f g)
joined_there forms p q makes f g e h =
    ap (λ (o : Option Assertion). followed o (λ (a : Assertion). followed (slice_get forms q) (λ (b : Assertion). Some (makes a b)))) e
    ∙ ap (λ (o : Option Assertion). followed o (λ (b : Assertion). Some (makes f b))) h

-- its row, from the rows of its parts
pub row_of_two : (sorts : Sorts) (trees : List Tree) (rows : List FormRow) (forms : List Assertion) (p q : ℕ)
    (makes : Assertion → Assertion → Assertion) (first second row : FormRow) (r : Result Assertion Word) →
    ((a b : Assertion) → form_nodes (makes a b) ≡ 1 + form_nodes a + form_nodes b) →
    ((a b : Assertion) → form_depth (makes a b) ≡ 1 + max (form_depth a) (form_depth b)) →
    row_form sorts trees forms row.made ≡ joined forms p q makes →
    RowsStand sorts trees rows forms → slice_get rows p ≡ Some first → slice_get rows q ≡ Some second →
    TellsRows forms p q makes (Ok (first, second)) r →
    ((m n : ℕ) → first.nodes ≡ min m 200001 → second.nodes ≡ min n 200001 → row.nodes ≡ min (1 + m + n) 200001) →
    ((m n : ℕ) → first.depth ≡ min m 65 → second.depth ≡ min n 65 → row.depth ≡ min (1 + max m n) 65) →
    Tells (RowStands sorts trees forms) (Ok row) r
row_of_two sorts trees rows forms p q makes first second row r nodes depth is stand one two tells more deeper =
    let f = tells.0 in
    let g = tells.1 in
    let a = stand.each p first f one tells.2 in
    let b = stand.each q second g two tells.3 in
    let made : RowStands sorts trees forms row (makes f g) = record {
      made = is ∙ joined_there forms p q makes f g tells.2 tells.3;
      nodes = more (form_nodes f) (form_nodes g) a.nodes b.nodes ∙ ap (λ (n : ℕ). min n 200001) (sym (nodes f g));
      depth = deeper (form_depth f) (form_depth g) a.depth b.depth ∙ ap (λ (n : ℕ). min n 65) (sym (depth f g));
    } in
    subst (Tells (RowStands sorts trees forms) (Ok row)) (sym tells.4) made
