-- Formulas and lines under other numbers stand for the same over the other table.
use Rattle.sm_list.proofs.Imports.{◌≡◌, ℕ, zero, suc, ◌<◌, ◌+◌, pos, List, [], ◌∷◌, ◌++◌, length, map, take, get_or, refl, sym, ap, ◌∙◌, subst, arith, length-map, map-append, take_more, Sorts, Tree, Lit, tree_at, TermId, tree_sort, NumberedFormula, assertion_in, IsFormulaWithin, EachNamed, line_in, numbered_line, IsLineWithin, number_under, CertLine, with_twice, with_same, each_with, each_more, AreLinesWithin, within_parts, trees_at, numbers_of, AreBelow, assertions_in, AreFormulasWithin, formula_under, IsLineUnder, AreLinesUnder, AreTermsOf, below_at, tree_of_place}
use Rattle.sm_term.specs.Assertions as plain
use Rattle.sm_term.specs.Formulas.{Yes, No, Eq, Ne, Le, Lt, And, Or}
use Rattle.sm_theory.specs.Lines as told
use Rattle.sm_theory.specs.Named.{with_terms}

-- the number of the term at a place, whatever is said past the end
pub at_number : (numbers : List TermId) (n : ℕ) (d : TermId) (e : ℕ) → n < length numbers →
    (get_or numbers n d).0 ≡ get_or (numbers_of numbers) n e
at_number [] n d e h = absurd (omega arith)
at_number (t ∷ ts) zero d e h = refl
at_number (t ∷ ts) (suc n) d e h = at_number ts n d e (omega arith)

-- terms of a table are those of another under their numbers there
pub record Stands (trees others : List Tree) (new : ℕ → ℕ) (n : ℕ) : Type 0 where
  pub there : new n < length others
  pub same : tree_at others (new n) ≡ tree_at trees n

pub terms_stand : (trees others : List Tree) (numbers : List TermId) → AreTermsOf others numbers trees → (n : ℕ) → n < length trees →
    Stands trees others (number_under numbers) n
terms_stand trees others numbers are n h =
    let ns = numbers_of numbers in
    let long : length (trees_at others ns) ≡ length trees = ap length are.trees_are in
    let many : length (trees_at others ns) ≡ length ns = length-map ns (tree_at others) in
    let each : length ns ≡ length numbers = length-map numbers (λ (t : TermId). t.0) in
    let inside : n < length ns = omega arith in
    let default : number_under numbers n ≡ get_or ns n 0 = at_number numbers n (record { 0 = n }) 0 (omega arith) in
    record {
      there = subst (λ (k : ℕ). k < length others) (sym default) (below_at (length others) ns are.below n inside);
      same = ap (tree_at others) default ∙ tree_of_place others ns n (Lit (pos 0)) inside
          ∙ ap (λ (ts : List Tree). tree_at ts n) are.trees_are;
    }

module _ (trees others : List Tree) (new : ℕ → ℕ) where
  -- the terms of a formula are those of another table under their numbers there
  abbrev pub FormulaStands : NumberedFormula → Type 0
  FormulaStands Yes = Unit {0}
  FormulaStands No = Unit {0}
  FormulaStands (Eq t u) = Stands trees others new t × Stands trees others new u
  FormulaStands (Ne t u) = Stands trees others new t × Stands trees others new u
  FormulaStands (Le t u) = Stands trees others new t × Stands trees others new u
  FormulaStands (Lt t u) = Stands trees others new t × Stands trees others new u
  FormulaStands (And p q) = FormulaStands p × FormulaStands q
  FormulaStands (Or p q) = FormulaStands p × FormulaStands q

  abbrev pub FormulasStand : List NumberedFormula → Type 0
  FormulasStand [] = Unit {0}
  FormulasStand (f ∷ fs) = FormulaStands f × FormulasStand fs

  -- so the formula is the same there
  pub formula_same : (sorts : Sorts) (f : NumberedFormula) → FormulaStands f →
      assertion_in sorts others (formula_under new f) ≡ assertion_in sorts trees f
  formula_same sorts Yes h = refl
  formula_same sorts No h = refl
  formula_same sorts (Eq t u) h =
      ap (λ (x : Tree). plain.Eq (tree_sort sorts x) x (tree_at others (new u))) h.0.same
      ∙ ap (plain.Eq (tree_sort sorts (tree_at trees t)) (tree_at trees t)) h.1.same
  formula_same sorts (Ne t u) h =
      ap (λ (x : Tree). plain.Ne (tree_sort sorts x) x (tree_at others (new u))) h.0.same
      ∙ ap (plain.Ne (tree_sort sorts (tree_at trees t)) (tree_at trees t)) h.1.same
  formula_same sorts (Le t u) h =
      ap (λ (x : Tree). plain.Le x (tree_at others (new u))) h.0.same ∙ ap (plain.Le (tree_at trees t)) h.1.same
  formula_same sorts (Lt t u) h =
      ap (λ (x : Tree). plain.Lt x (tree_at others (new u))) h.0.same ∙ ap (plain.Lt (tree_at trees t)) h.1.same
  formula_same sorts (And p q) h =
      ap (λ (f : plain.Assertion). plain.And f (assertion_in sorts others (formula_under new q))) (formula_same sorts p h.0)
      ∙ ap (plain.And (assertion_in sorts trees p)) (formula_same sorts q h.1)
  formula_same sorts (Or p q) h =
      ap (λ (f : plain.Assertion). plain.Or f (assertion_in sorts others (formula_under new q))) (formula_same sorts p h.0)
      ∙ ap (plain.Or (assertion_in sorts trees p)) (formula_same sorts q h.1)

  pub formula_there : (f : NumberedFormula) → FormulaStands f → IsFormulaWithin (length others) (formula_under new f)
  formula_there Yes h = tt
  formula_there No h = tt
  formula_there (Eq t u) h = (h.0.there, h.1.there)
  formula_there (Ne t u) h = (h.0.there, h.1.there)
  formula_there (Le t u) h = (h.0.there, h.1.there)
  formula_there (Lt t u) h = (h.0.there, h.1.there)
  formula_there (And p q) h = (formula_there p h.0, formula_there q h.1)
  formula_there (Or p q) h = (formula_there p h.0, formula_there q h.1)

  pub formulas_same : (sorts : Sorts) (fs : List NumberedFormula) → FormulasStand fs →
      assertions_in sorts others (map (formula_under new) fs) ≡ assertions_in sorts trees fs
  formulas_same sorts [] h = refl
  formulas_same sorts (f ∷ fs) h =
      ap (λ (g : plain.Assertion). g ∷ assertions_in sorts others (map (formula_under new) fs)) (formula_same sorts f h.0)
      ∙ ap (λ (gs : List plain.Assertion). assertion_in sorts trees f ∷ gs) (formulas_same sorts fs h.1)

  pub formulas_there : (fs : List NumberedFormula) → FormulasStand fs → AreFormulasWithin (length others) (map (formula_under new) fs)
  formulas_there [] h = tt
  formulas_there (f ∷ fs) h = (formula_there f h.0, formulas_there fs h.1)

-- where all terms of the table are in the other, those of each formula are
pub formula_stands : (trees others : List Tree) (new : ℕ → ℕ) → ((n : ℕ) → n < length trees → Stands trees others new n) →
    (f : NumberedFormula) → IsFormulaWithin (length trees) f → FormulaStands trees others new f
formula_stands trees others new all Yes h = tt
formula_stands trees others new all No h = tt
formula_stands trees others new all (Eq t u) h = (all t h.0, all u h.1)
formula_stands trees others new all (Ne t u) h = (all t h.0, all u h.1)
formula_stands trees others new all (Le t u) h = (all t h.0, all u h.1)
formula_stands trees others new all (Lt t u) h = (all t h.0, all u h.1)
formula_stands trees others new all (And p q) h = (formula_stands trees others new all p h.0, formula_stands trees others new all q h.1)
formula_stands trees others new all (Or p q) h = (formula_stands trees others new all p h.0, formula_stands trees others new all q h.1)

-- so a line under other numbers is the same line
pub record LineStands (trees others : List Tree) (old new : CertLine) : Type 0 where
  pub same : line_in others new ≡ line_in trees old
  pub there : IsLineWithin (length others) new

pub line_stands : (trees others : List Tree) (numbers : List TermId) (old new : CertLine) → AreTermsOf others numbers trees →
    IsLineUnder numbers old new → IsLineWithin (length trees) old → LineStands trees others old new
line_stands trees others numbers old new are under within =
    let line = numbered_line old in
    let to = number_under numbers in
    let stand : (n : ℕ) → n < length trees → Stands trees others to n = terms_stand trees others numbers are in
    record {
      same =
          ap (with_terms (tree_at others)) under ∙ with_twice (tree_at others) to line
          ∙ with_same (λ (n : ℕ). tree_at others (to n)) (tree_at trees) line
          (each_more (λ (n : ℕ). n < length trees) (λ (n : ℕ). tree_at others (to n) ≡ tree_at trees n) line
          (λ (n : ℕ) (h : n < length trees). (stand n h).same) within);
      there =
          subst (EachNamed (λ (n : ℕ). n < length others)) (sym under)
          (each_with (λ (n : ℕ). n < length others) to line
          (each_more (λ (n : ℕ). n < length trees) (λ (n : ℕ). to n < length others) line
          (λ (n : ℕ) (h : n < length trees). (stand n h).there) within));
    }

pub within-append : (count : ℕ) (xs ys : List CertLine) → AreLinesWithin count xs → AreLinesWithin count ys →
    AreLinesWithin count (xs ++ ys)
within-append count [] ys h k = k
within-append count (x ∷ xs) ys h k = (h.0, within-append count xs ys h.1 k)

pub lines_more : (numbers : List TermId) (xs ys : List CertLine) (x y : CertLine) → AreLinesUnder numbers xs ys → IsLineUnder numbers x y →
    AreLinesUnder numbers (xs ++ x ∷ []) (ys ++ y ∷ [])
lines_more numbers xs ys x y under one = λ trees others are within.
    let parts = within_parts (length trees) xs (x ∷ []) within in
    let before = under trees others are parts.0 in
    let last = line_stands trees others numbers x y are one parts.1.0 in (
      map-append (line_in others) ys (y ∷ [])
          ∙ ap (λ (ls : List told.CertificateLine). ls ++ line_in others y ∷ []) before.0
          ∙ ap (λ (l : told.CertificateLine). map (line_in trees) xs ++ l ∷ []) last.same
          ∙ sym (map-append (line_in trees) xs (x ∷ [])),
      within-append (length others) ys (y ∷ []) before.1 (last.there, tt),
    )

-- the next line of a list
pub lines_next : (numbers : List TermId) (ls : List CertLine) (i : ℕ) (made more : List CertLine) (x y : CertLine) → i < length ls →
    x ≡ get_or ls i x →
    more ≡ made ++ y ∷ [] → AreLinesUnder numbers (take i ls) made → IsLineUnder numbers x y → AreLinesUnder numbers (take (i + 1) ls) more
lines_next numbers ls i made more x y inside is pushed under one =
    let next : take i ls ++ x ∷ [] ≡ take (i + 1) ls = ap (λ (l : CertLine). take i ls ++ l ∷ []) is ∙ sym (take_more ls i x inside) in
    let all = lines_more numbers (take i ls) made x y under one in
    subst (λ (ms : List CertLine). AreLinesUnder numbers (take (i + 1) ls) ms) (sym pushed)
    (subst (λ (ks : List CertLine). AreLinesUnder numbers ks (made ++ y ∷ [])) next all)
