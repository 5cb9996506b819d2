-- A term that is put into a table of its own, after its arguments, stands for the same there.
use Rattle.sm_list.proofs.Imports.{◌≡◌, ◌⊎◌, inl, inr, ℕ, zero, suc, ◌+◌, ◌<◌, ◌==◌, pos, Bool, true, false, Some, slice_get, slice_set, List, [], ◌∷◌, ◌++◌, length, take, get_or, refl, sym, ap, ◌∙◌, subst, arith, length-append, length-map, take_more, get_or-set_same, get_or-set_other, map-set, slice_get_within, get_or_from_slice_get, eqb-true, eqb-false, Code, Sorts, Tree, Lit, contents_of, moved_contents, arguments_of, Assertion, TableValue, trees_in, sorts_in, tree_at, tree_in, IsTermWithin, AreBefore, TermId, Term, term_fits, AreApart, with_tree, AddsTerms, NumberedFormula, assertion_in, IsFormulaWithin, assertion-more, form_kept, tree_at-more, grown-with_tree, argument_numbers, trees_of, is_among, number_under, trees_at, numbers_of, AreBelow, AllAmong, AreBuilt, ArePlaced, assertions_in, AreFormulasWithin, among_put_cases, put_new, below_at, tree_of_place}
use Rattle.sm_term.specs.Formulas.{Yes, No, Eq, Ne, Le, Lt, And, Or}
use Rattle.sm_euf.proofs.ArgumentsLemmas.{arguments_are, parts_before}
use Rattle.sm_list.proofs.RenumberLemmas.{Stands, FormulaStands, FormulasStand}
use Rattle.sm_list.proofs.RenumberTermLemmas.{AllStand, renumbered_tree, renumbered_within, renumbered_fits}
use Rattle.sm_list.proofs.BuiltLemmas.{FormulaAmong, FormulasAmong, built_at}

-- terms that are there stand for the same
placed_stands : (trees own : List Tree) (numbers : List TermId) → ArePlaced trees own numbers → (n : ℕ) → n < length trees →
    is_among own (tree_at trees n) ≡ true → Stands trees own (number_under numbers) n
placed_stands trees own numbers placed n h among = let p = placed n h among in record { there = p.0; same = p.1 }

-- so those of arguments that are there
all_stand : (sorts : Sorts) (codes : List Code) (trees own : List Tree) (numbers : List TermId) → ArePlaced trees own numbers →
    (args : List TermId) →
    AreBefore (length trees) args → AllAmong own (trees_of trees args) → AllStand sorts codes trees own (number_under numbers) args
all_stand sorts codes trees own numbers placed [] before h = tt
all_stand sorts codes trees own numbers placed (t ∷ args) before h =
    (placed_stands trees own numbers placed t.0 before.0 h.0, all_stand sorts codes trees own numbers placed args before.1 h.1)

-- a term of a table as one of the other
pub record RowStands (sorts : Sorts) (codes : List Code) (trees own : List Tree) (n : ℕ) (u : Term) : Type 0 where
  pub within : IsTermWithin sorts (length codes) (length own) u
  pub fits : term_fits sorts own u ≡ true
  pub tree : tree_in codes own u ≡ tree_at trees n

row_stands_here : (sorts : Sorts) (codes : List Code) (trees own : List Tree) (numbers : List TermId) → ArePlaced trees own numbers →
    (n : ℕ) →
    n < length trees → (t u : Term) → tree_in codes trees t ≡ tree_at trees n → IsTermWithin sorts (length codes) n t →
    term_fits sorts trees t ≡ true → AllAmong own (arguments_of (tree_at trees n)) →
    contents_of u ≡ moved_contents (number_under numbers) (λ (b : ℕ). b) t → RowStands sorts codes trees own n u
row_stands_here sorts codes trees own numbers placed n h t u tree within fits ready e =
    let new = number_under numbers in
    let args = argument_numbers t in
    let before : AreBefore (length trees) args = parts_before sorts (length codes) n (length trees) (omega arith) t within in
    let are : arguments_of (tree_at trees n) ≡ trees_of trees args = ap arguments_of (sym tree) ∙ arguments_are sorts codes trees t fits in
    let all = all_stand sorts codes trees own numbers placed args before (subst (AllAmong own) are ready) in
    record {
      within = renumbered_within sorts codes trees own new n t u e all within;
      fits = renumbered_fits sorts codes trees own new t u e all ∙ fits;
      tree = renumbered_tree sorts codes trees own new t u e all ∙ tree;
    }

-- where the other table has the same sorts and code
pub row_stands : (sorts others : Sorts) (codes there : List Code) (trees own : List Tree) (numbers : List TermId) → others ≡ sorts →
    there ≡ codes →
    ArePlaced trees own numbers → (n : ℕ) → n < length trees → (t u : Term) → tree_in codes trees t ≡ tree_at trees n →
    IsTermWithin sorts (length codes) n t → term_fits sorts trees t ≡ true → AllAmong own (arguments_of (tree_at trees n)) →
    contents_of u ≡ moved_contents (number_under numbers) (λ (b : ℕ). b) t → RowStands others there trees own n u
row_stands sorts others codes there trees own numbers first second placed n h t u tree within fits ready e =
    subst (λ (s : Sorts). RowStands s there trees own n u) (sym first)
    (subst (λ (c : List Code). RowStands sorts c trees own n u) (sym second)
    (row_stands_here sorts codes trees own numbers placed n h t u tree within fits ready e))

-- a number that is noted
number_set : (numbers : List TermId) (k : ℕ) (id : TermId) → k < length numbers → number_under (slice_set numbers k id) k ≡ id.0
number_set numbers k id h = ap (λ (t : TermId). t.0) (get_or-set_same numbers k id (record { 0 = k }) h)

number_other : (numbers : List TermId) (k n : ℕ) (id : TermId) → (n ≡ k → ⊥) →
    number_under (slice_set numbers k id) n ≡ number_under numbers n
number_other numbers k n id other = ap (λ (t : TermId). t.0) (get_or-set_other numbers k n id (record { 0 = n }) other)

-- a term is put, and its number noted
pub placed_put : (trees own : List Tree) → AreApart trees → (numbers more : List TermId) (k : ℕ) (id : TermId) (later : List Tree) →
    ArePlaced trees own numbers → k < length trees → length numbers ≡ length trees → later ≡ with_tree own (tree_at trees k) →
    slice_get later id.0 ≡ Some (tree_at trees k) → more ≡ slice_set numbers k id → ArePlaced trees later more
placed_put trees own apart numbers more k id later placed inside many made stored noted = λ n h among.
    subst (λ (ns : List TermId). Has ns n) (sym noted)
    (at n (n == k) refl h (among_put_cases (tree_at trees k) own (tree_at trees n) (subst (λ (ts : List Tree). is_among ts (tree_at trees
    n) ≡ true) made among)))
  where
    Has : List TermId → ℕ → Type 0
    Has ns n = (number_under ns n < length later) × (tree_at later (number_under ns n) ≡ tree_at trees n)

    new : List TermId
    new = slice_set numbers k id

    here : Has new k
    here =
        let same = number_set numbers k id (omega arith) in (
          subst (λ (m : ℕ). m < length later) (sym same) (slice_get_within later id.0 (tree_at trees k) stored),
          ap (tree_at later) same ∙ get_or_from_slice_get later id.0 (tree_at trees k) (Lit (pos 0)) stored,
        )

    at : (n : ℕ) (b : Bool) → (n == k) ≡ b → n < length trees →
        (is_among own (tree_at trees n) ≡ true) ⊎ (tree_at trees n ≡ tree_at trees k) → Has new n
    at n true is h either = subst (Has new) (sym (eqb-true n k is)) here
    at n false is h (inr same) = subst (Has new) (sym (apart n k h inside same)) here
    at n false is h (inl among) =
        let old = placed n h among in
        let grown = grown-with_tree own (tree_at trees k) in
        let is_grown : later ≡ own ++ grown.0 = made ∙ grown.1 in
        let long = length-append own grown.0 in
        let same = number_other numbers k n id (eqb-false n k is) in
        let less = old.0 in
        let within : number_under numbers n < length (own ++ grown.0) = omega arith in (
          subst (λ (m : ℕ). m < length later) (sym same) (subst (λ (ts : List Tree). number_under numbers n < length ts) (sym is_grown)
              within),
          ap (tree_at later) same ∙ ap (λ (ts : List Tree). tree_at ts (number_under numbers n)) is_grown
              ∙ tree_at-more own grown.0 (number_under numbers n) old.0 ∙ old.1,
        )

-- the number of a term at a place
number_of_place : (terms : List TermId) (i : ℕ) (d : TermId) → i < length terms → get_or (numbers_of terms) i 0 ≡ (get_or terms i d).0
number_of_place [] i d h = absurd (omega arith)
number_of_place (u ∷ terms) zero d h = refl
number_of_place (u ∷ terms) (suc i) d h = number_of_place terms i d (omega arith)

-- the next term of a list, where those before it are there
pub record NextTerm (trees : List Tree) (terms : List TermId) (i : ℕ) (t : TermId) : Type 0 where
  pub within : t.0 < length trees
  pub ready : AllAmong (take i (trees_at trees (numbers_of terms))) (arguments_of (tree_at trees t.0))
  pub next : with_tree (take i (trees_at trees (numbers_of terms))) (tree_at trees t.0) ≡ take (i + 1) (trees_at trees (numbers_of terms))

pub next_term : (trees : List Tree) (terms : List TermId) → AreBelow (length trees) (numbers_of terms) →
    AreBuilt [] (trees_at trees (numbers_of terms)) → (i : ℕ) (d : TermId) → i < length terms → NextTerm trees terms i (get_or terms i d)
next_term trees terms below built i d h =
    let t = get_or terms i d in
    let ns = numbers_of terms in
    let all = trees_at trees ns in
    let many = length-map terms (λ (u : TermId). u.0) in
    let long = length-map ns (tree_at trees) in
    let inside : i < length all = omega arith in
    let listed : i < length ns = omega arith in
    let number = number_of_place terms i d h in
    let tree : tree_at trees t.0 ≡ tree_at all i = ap (tree_at trees) (sym number) ∙ tree_of_place trees ns i (Lit (pos 0)) listed in
    let one = built_at [] all (Lit (pos 0)) built i inside in
    record {
      within = subst (λ (n : ℕ). n < length trees) number (below_at (length trees) ns below i listed);
      ready = subst (λ (u : Tree). AllAmong (take i all) (arguments_of u)) (sym tree) one.ready;
      next =
          ap (with_tree (take i all)) tree ∙ put_new (tree_at all i) (take i all) one.new
          ∙ sym (take_more all i (Lit (pos 0)) inside);
    }

-- a formula of which all terms are there
formula_placed : (sorts : Sorts) (trees own : List Tree) (numbers : List TermId) → ArePlaced trees own numbers → (f : NumberedFormula) →
    IsFormulaWithin (length trees) f → FormulaAmong own (assertion_in sorts trees f) → FormulaStands trees own (number_under numbers) f
formula_placed sorts trees own numbers placed Yes h k = tt
formula_placed sorts trees own numbers placed No h k = tt
formula_placed sorts trees own numbers placed (Eq t u) h k =
    (placed_stands trees own numbers placed t h.0 k.0, placed_stands trees own numbers placed u h.1 k.1)
formula_placed sorts trees own numbers placed (Ne t u) h k =
    (placed_stands trees own numbers placed t h.0 k.0, placed_stands trees own numbers placed u h.1 k.1)
formula_placed sorts trees own numbers placed (Le t u) h k =
    (placed_stands trees own numbers placed t h.0 k.0, placed_stands trees own numbers placed u h.1 k.1)
formula_placed sorts trees own numbers placed (Lt t u) h k =
    (placed_stands trees own numbers placed t h.0 k.0, placed_stands trees own numbers placed u h.1 k.1)
formula_placed sorts trees own numbers placed (And p q) h k =
    (formula_placed sorts trees own numbers placed p h.0 k.0, formula_placed sorts trees own numbers placed q h.1 k.1)
formula_placed sorts trees own numbers placed (Or p q) h k =
    (formula_placed sorts trees own numbers placed p h.0 k.0, formula_placed sorts trees own numbers placed q h.1 k.1)

pub formulas_placed : (sorts : Sorts) (trees own : List Tree) (numbers : List TermId) → ArePlaced trees own numbers →
    (fs : List NumberedFormula) →
    AreFormulasWithin (length trees) fs → FormulasAmong own (assertions_in sorts trees fs) →
    FormulasStand trees own (number_under numbers) fs
formulas_placed sorts trees own numbers placed [] h k = tt
formulas_placed sorts trees own numbers placed (f ∷ fs) h k =
    (formula_placed sorts trees own numbers placed f h.0 k.0, formulas_placed sorts trees own numbers placed fs h.1 k.1)

-- facts over a table that has grown
pub facts_grown : (v w : TableValue) → AddsTerms v w → (fs : List NumberedFormula) → AreFormulasWithin (length (trees_in v)) fs →
    assertions_in (sorts_in w) (trees_in w) fs ≡ assertions_in (sorts_in v) (trees_in v) fs
facts_grown v w grows [] h = refl
facts_grown v w grows (f ∷ fs) h =
    ap (λ (g : Assertion). g ∷ assertions_in (sorts_in w) (trees_in w) fs) (assertion-more v w grows f h.0)
    ∙ ap (λ (gs : List Assertion). assertion_in (sorts_in v) (trees_in v) f ∷ gs) (facts_grown v w grows fs h.1)

pub facts_within_grown : (v w : TableValue) → AddsTerms v w → (fs : List NumberedFormula) → AreFormulasWithin (length (trees_in v)) fs →
    AreFormulasWithin (length (trees_in w)) fs
facts_within_grown v w grows [] h = tt
facts_within_grown v w grows (f ∷ fs) h = (form_kept v w grows f h.0, facts_within_grown v w grows fs h.1)
