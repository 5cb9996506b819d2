-- Lines of certificates that make the splits of a branch.
use Rattle.sm_judge.proofs.Imports.{◌≡◌, zero, suc, Bool, true, false, ◌&&◌, ◌||◌, not, if◌then◌else◌, IsTrue, Option, Some, None, List, [], ◌∷◌, slice_get, refl, sym, ap, subst, ◌∙◌, Sorts, Tree, Lit, Start, Havoc, Slot, Cell, Read, Write, Neg, Add, Sub, Mul, Fun, Assertion, NumberedFormula, numbered, assertion_in, IsFormulaWithin, same_sort, IsSorted, tree_sort, tree_at, same_sort_is, is_numeric, BranchSplit, Seen, Split, is_fact, is_held, part_split, order_split, index_split, split_told, IsToldWithin, SplitsBranch}
use Rattle.std.proofs.Common.{ℕ}
use Rattle.sm_syntax.specs.declared.tree.Sort.TheVariants.{Num}
use Rattle.sm_term.specs.Assertions.{Yes, No, Eq, Ne, Le, Lt, And, Or}
use Rattle.sm_term.specs.Formulas as plain
use Rattle.sm_theory.specs.Facts.{as_facts}
use Rattle.sm_theory.specs.Lines.{Either, Order, Cases, followed, formula_at, unequal_sides}
use Rattle.sm_theory.specs.Ways.{Ways, ways, splitting, either_part, ordered}
use Rattle.sm_judge.specs.ByCases.{IsByCases}

-- a formula at its place among facts
formula_is : (fs : List Assertion) (n : ℕ) (a : Assertion) → slice_get fs n ≡ Some a → formula_at (as_facts fs) n ≡ Some a
formula_is [] n a h = absurd cc
formula_is (f ∷ fs) zero a h = h
formula_is (f ∷ fs) (suc n) a h = formula_is fs n a h

-- a split by two formulas
abbrev pub by_two : Assertion → Assertion → Option Split
by_two x y = Some (x, y)

-- equal splits have equal formulas
both_same : (x y v w : Assertion) → by_two x y ≡ by_two v w → ◌≡◌ {A = Split} (x, y) (v, w)
both_same x y v w h = cc

-- the two ways of a split
abbrev ways_of : Split → Ways
ways_of s = splitting s.0 s.1

both_ways : (x y v w : Assertion) → by_two x y ≡ by_two v w → splitting v w ≡ splitting x y
both_ways x y v w h = sym (ap ways_of (both_same x y v w h))

-- the parts of a disjunction
either_is : (b : Seen) (a x y : Assertion) → by_two x y ≡ part_split b a → either_part a ≡ splitting x y
either_is b (Or p q) x y h = by (is_held b (Or p q)) h
  where
    by : (v : Bool) → by_two x y ≡ (if v then None else by_two p q) → splitting p q ≡ splitting x y
    by true e = absurd cc
    by false e = both_ways x y p q e
either_is b Yes x y h = absurd cc
either_is b No x y h = absurd cc
either_is b (Eq sort t u) x y h = absurd cc
either_is b (Ne sort t u) x y h = absurd cc
either_is b (Le t u) x y h = absurd cc
either_is b (Lt t u) x y h = absurd cc
either_is b (And p q) x y h = absurd cc

pub part_line : (b : Seen) (sorts : Sorts) (fs : List Assertion) (n : ℕ) (a x y : Assertion) → slice_get fs n ≡ Some a →
    by_two x y ≡ part_split b a → ways sorts (as_facts fs) (Either n) ≡ splitting x y
part_line b sorts fs n a x y at h =
    ap (λ (o : Option Assertion). followed o either_part) (formula_is fs n a at) ∙ either_is b a x y h

-- the orders of two numbers that aren't equal
order_is : (b : Seen) (a x y : Assertion) → by_two x y ≡ order_split b a → followed (unequal_sides a) ordered ≡ splitting x y
order_is b (Ne sort t u) x y h = by (same_sort sort Num) (is_fact b (Lt t u) || is_fact b (Lt u t)) h
  where
    by : (number known : Bool) → by_two x y ≡ (if not number || known then None else by_two (Lt t u) (Lt u t)) →
        (if number then splitting (Lt t u) (Lt u t) else None) ≡ splitting x y
    by true true e = absurd cc
    by true false e = both_ways x y (Lt t u) (Lt u t) e
    by false known e = absurd cc
order_is b Yes x y h = absurd cc
order_is b No x y h = absurd cc
order_is b (Eq sort t u) x y h = absurd cc
order_is b (Le t u) x y h = absurd cc
order_is b (Lt t u) x y h = absurd cc
order_is b (And p q) x y h = absurd cc
order_is b (Or p q) x y h = absurd cc

pub order_line : (b : Seen) (sorts : Sorts) (fs : List Assertion) (n : ℕ) (a x y : Assertion) → slice_get fs n ≡ Some a →
    by_two x y ≡ order_split b a → ways sorts (as_facts fs) (Order n) ≡ splitting x y
order_line b sorts fs n a x y at h =
    ap (λ (o : Option Assertion). followed (followed o unequal_sides) ordered) (formula_is fs n a at) ∙ order_is b a x y h

-- two numbers, by which a branch is split where an element is read
record AreIndices (sorts : Sorts) (x y : Assertion) (i j : Tree) : Type 0 where
  pub first : x ≡ Eq Num i j
  pub second : y ≡ Ne Num i j
  pub left : IsTrue (is_numeric sorts i)
  pub right : IsTrue (is_numeric sorts j)

indices_of : (sorts : Sorts) (b : Seen) (t : Tree) (x y : Assertion) → IsSorted sorts t → by_two x y ≡ index_split b t →
    (i : Tree) × (j : Tree) × AreIndices sorts x y i j
indices_of sorts b (Read (Write a i e) j) x y s h = (i, j, by (b.equal i j || b.apart i j) h)
  where
    by : (v : Bool) → by_two x y ≡ (if v then None else by_two (Eq Num i j) (Ne Num i j)) → AreIndices sorts x y i j
    by true is = absurd cc
    by false is = record {
      first = ap (λ (p : Split). p.0) (both_same x y (Eq Num i j) (Ne Num i j) is);
      second = ap (λ (p : Split). p.1) (both_same x y (Eq Num i j) (Ne Num i j) is);
      left = (same_sort_is (tree_sort sorts i) Num).1 s.0.3;
      right = (same_sort_is (tree_sort sorts j) Num).1 s.3;
    }
indices_of sorts b (Read (Lit z) j) x y s h = absurd cc
indices_of sorts b (Read (Start n) j) x y s h = absurd cc
indices_of sorts b (Read (Havoc k c n) j) x y s h = absurd cc
indices_of sorts b (Read (Slot c n) j) x y s h = absurd cc
indices_of sorts b (Read Cell j) x y s h = absurd cc
indices_of sorts b (Read (Read a i) j) x y s h = absurd cc
indices_of sorts b (Read (Neg t) j) x y s h = absurd cc
indices_of sorts b (Read (Add t u) j) x y s h = absurd cc
indices_of sorts b (Read (Sub t u) j) x y s h = absurd cc
indices_of sorts b (Read (Mul t u) j) x y s h = absurd cc
indices_of sorts b (Read (Fun c n args) j) x y s h = absurd cc
indices_of sorts b (Lit z) x y s h = absurd cc
indices_of sorts b (Start n) x y s h = absurd cc
indices_of sorts b (Havoc k c n) x y s h = absurd cc
indices_of sorts b (Slot c n) x y s h = absurd cc
indices_of sorts b Cell x y s h = absurd cc
indices_of sorts b (Write a i e) x y s h = absurd cc
indices_of sorts b (Neg t) x y s h = absurd cc
indices_of sorts b (Add t u) x y s h = absurd cc
indices_of sorts b (Sub t u) x y s h = absurd cc
indices_of sorts b (Mul t u) x y s h = absurd cc
indices_of sorts b (Fun c n args) x y s h = absurd cc

-- the sides of an equation over a table
sides_of : (sorts : Sorts) (trees : List Tree) (f : NumberedFormula) (i j : Tree) → assertion_in sorts trees f ≡ Eq Num i j →
    (t : ℕ) × (u : ℕ) × (f ≡ plain.Eq t u) × (tree_at trees t ≡ i) × (tree_at trees u ≡ j)
sides_of sorts trees (plain.Eq t u) i j h = (t, u, refl, cc, cc)
sides_of sorts trees plain.Yes i j h = absurd cc
sides_of sorts trees plain.No i j h = absurd cc
sides_of sorts trees (plain.Ne t u) i j h = absurd cc
sides_of sorts trees (plain.Le t u) i j h = absurd cc
sides_of sorts trees (plain.Lt t u) i j h = absurd cc
sides_of sorts trees (plain.And p q) i j h = absurd cc
sides_of sorts trees (plain.Or p q) i j h = absurd cc

-- a test of two numbers is passed
cases_pass : (left right : Bool) (w : Ways) → left ≡ true → right ≡ true → (if left && right then w else None) ≡ w
cases_pass left right w h k =
    ap (λ (v : Bool). if v && right then w else None) h ∙ ap (λ (v : Bool). if v then w else None) k

-- a split by cases, as told of an element that is read
module _ (sorts : Sorts) (trees : List Tree) (b : Seen) (tree : Tree) (sorted : IsSorted sorts tree) (f g : NumberedFormula)
    (o : Option BranchSplit) (is : by_two (assertion_in sorts trees f) (assertion_in sorts trees g) ≡ index_split b tree)
    (by : (t u : ℕ) → f ≡ plain.Eq t u → IsByCases t u g o) where
  abbrev x : Assertion
  x = assertion_in sorts trees f

  abbrev y : Assertion
  y = assertion_in sorts trees g

  found : (i : Tree) × (j : Tree) × AreIndices sorts x y i j
  found = indices_of sorts b tree x y sorted is

  sides : (t : ℕ) × (u : ℕ) × (f ≡ plain.Eq t u) × (tree_at trees t ≡ found.0) × (tree_at trees u ≡ found.1)
  sides = sides_of sorts trees f found.0 found.1 found.2.first

  told_as : (p : Option BranchSplit) → IsByCases sides.0 sides.1 g p → split_told sorts trees p ≡ by_two x y
  told_as None h = absurd h
  told_as (Some s) h =
      ap (λ (k : NumberedFormula). by_two (assertion_in sorts trees k) (assertion_in sorts trees (numbered s.second))) (h.0 ∙ sym sides.2)
      ∙ ap (λ (k : NumberedFormula). by_two x (assertion_in sorts trees k)) h.1

  pub cases_told : split_told sorts trees o ≡ by_two x y
  cases_told = told_as o (by sides.0 sides.1 sides.2)

  within_as : (count : ℕ) → IsFormulaWithin count f → IsFormulaWithin count g → (p : Option BranchSplit) → IsByCases sides.0 sides.1 g p →
      IsToldWithin count p
  within_as count one two None h = absurd h
  within_as count one two (Some s) h =
      let both : IsFormulaWithin count (plain.Eq sides.0 sides.1) = subst (IsFormulaWithin count) sides.2 one in (
        h.3 count both.0 both.1,
        (subst (IsFormulaWithin count) (sym h.0) both, subst (IsFormulaWithin count) (sym h.1) two),
      )

  pub cases_within : (count : ℕ) → IsFormulaWithin count f → IsFormulaWithin count g → IsToldWithin count o
  cases_within count one two = within_as count one two o (by sides.0 sides.1 sides.2)

  named : (facts : List Assertion) → ways sorts (as_facts facts) (Cases (tree_at trees sides.0) (tree_at trees sides.1)) ≡ splitting x y
  named facts =
      let i = found.0 in
      let j = found.1 in
      ap (λ (t : Tree). ways sorts (as_facts facts) (Cases t (tree_at trees sides.1))) sides.3
      ∙ ap (λ (t : Tree). ways sorts (as_facts facts) (Cases i t)) sides.4
      ∙ cases_pass (is_numeric sorts i) (is_numeric sorts j) (splitting (Eq Num i j) (Ne Num i j)) found.2.left found.2.right
      ∙ ap (λ (k : Assertion). splitting k (Ne Num i j)) (sym found.2.first)
      ∙ ap (splitting x) (sym found.2.second)

  line_as : (facts : List Assertion) (p : Option BranchSplit) → IsByCases sides.0 sides.1 g p → SplitsBranch sorts trees facts p
  line_as facts None h = absurd h
  line_as facts (Some s) h =
      ap (ways sorts (as_facts facts)) (h.2 trees) ∙ named facts
      ∙ ap (λ (k : NumberedFormula). splitting (assertion_in sorts trees k) y) (sides.2 ∙ sym h.0)
      ∙ ap (λ (k : NumberedFormula). splitting (assertion_in sorts trees (numbered s.first)) (assertion_in sorts trees k)) (sym h.1)

  pub cases_line : (facts : List Assertion) → SplitsBranch sorts trees facts o
  cases_line facts = line_as facts o (by sides.0 sides.1 sides.2)
