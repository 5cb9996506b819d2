-- Each line of an explanation adds a formula whose terms are those of the table.
use Rattle.sm_certify.proofs.Imports.{◌≡◌, ℕ, zero, suc, Bool, true, false, ◌&&◌, not, ℤ, List, [], ◌∷◌, ◌++◌, map, Option, Some, None, refl, sym, subst, int_eq, filter_map, Sorts, Num, Assertion, arguments_of, same_head, same_tree, tree_sort, tree_at, TermId, Tree, Read, Write, compared_forms, formula_if, turned_equation, turned_contrary, or_other, chained, substituted, is_inhabited_list, say_equal, says_equal, BranchFact, Formal, Sum, followed, formula_in, form_in, formula_at, Sides, equal_sides, unequal_sides, equation_at, contrary_at, is_among, line_in, CertLine, adds, added_by, IsListed, IsLineOf, AreLinesOf, IsClosed, FormulaAmong, FormulasAmong, followed_from, one_thing}
use Rattle.sm_term.specs.Assertions.{Yes, No, Eq, Ne, Le, Lt, And, Or}
use Rattle.sm_theory.specs.declared.line.CertLine.TheVariants as line
use Rattle.sm_theory.specs.Elements.{Written, read_of_written}
use Rattle.sm_certify.proofs.AddingLemmas.{added_first}

-- where a fact is a formula, its terms are among these
abbrev pub NamesAmong : List Tree → BranchFact → Type 0
NamesAmong seen (Formal f) = FormulaAmong seen f
NamesAmong seen (Sum g) = Unit {0}

-- the terms of each fact that is a formula are among these
abbrev pub AllNameAmong : List Tree → List BranchFact → Type 0
AllNameAmong seen [] = Unit {0}
AllNameAmong seen (k ∷ ks) = NamesAmong seen k × AllNameAmong seen ks

-- a fact is a formula, whose terms are among these
abbrev pub IsFormulaAmong : List Tree → BranchFact → Type 0
IsFormulaAmong seen (Formal f) = FormulaAmong seen f
IsFormulaAmong seen (Sum g) = ⊥

-- each fact is a formula, whose terms are among these
abbrev pub AreFormulasAmong : List Tree → List BranchFact → Type 0
AreFormulasAmong seen [] = Unit {0}
AreFormulasAmong seen (k ∷ ks) = IsFormulaAmong seen k × AreFormulasAmong seen ks

-- both sides are among these
abbrev SidesAmong : List Tree → Sides → Type 0
SidesAmong seen s = (is_among seen s.left ≡ true) × (is_among seen s.right ≡ true)

-- from the formulas alone
pub all_name : (seen : List Tree) (ks : List BranchFact) → FormulasAmong seen (filter_map formula_in ks) → AllNameAmong seen ks
all_name seen [] h = tt
all_name seen (Formal f ∷ ks) h = (h.0, all_name seen ks h.1)
all_name seen (Sum g ∷ ks) h = (tt, all_name seen ks h)

-- where each fact is a formula with terms among these, the terms of all formulas are among them
pub formulas_name : (seen : List Tree) (ks : List BranchFact) → AreFormulasAmong seen ks → FormulasAmong seen (filter_map formula_in ks)
formulas_name seen [] h = tt
formulas_name seen (Formal f ∷ ks) h = (h.0, formulas_name seen ks h.1)
formulas_name seen (Sum g ∷ ks) h = absurd h.0

-- formulas are no forms
pub formulas_alone : (seen : List Tree) (ks : List BranchFact) → AreFormulasAmong seen ks → filter_map form_in ks ≡ []
formulas_alone seen [] h = refl
formulas_alone seen (Formal f ∷ ks) h = formulas_alone seen ks h.1
formulas_alone seen (Sum g ∷ ks) h = absurd h.0

-- a fact that is a formula is also one whose terms are known
names_formula : (seen : List Tree) (k : BranchFact) → IsFormulaAmong seen k → NamesAmong seen k
names_formula seen (Formal f) h = h
names_formula seen (Sum g) h = tt

names_more : (seen : List Tree) (ks : List BranchFact) (k : BranchFact) → AllNameAmong seen ks → IsFormulaAmong seen k →
    AllNameAmong seen (ks ++ k ∷ [])
names_more seen [] k h more = (names_formula seen k more, tt)
names_more seen (l ∷ ks) k h more = (h.0, names_more seen ks k h.1 more)

module _ (seen : List Tree) where
  -- the sides of an equation
  equal_among : (f : Assertion) (s : Sides) → FormulaAmong seen f → equal_sides f ≡ Some s → SidesAmong seen s
  equal_among Yes s h e = absurd cc
  equal_among No s h e = absurd cc
  equal_among (Eq sort t u) s h e =
      let sides : Sides = record { sort = sort; left = t; right = u } in subst (SidesAmong seen) (one_thing sides s e) h
  equal_among (Ne sort t u) s h e = absurd cc
  equal_among (Le t u) s h e = absurd cc
  equal_among (Lt t u) s h e = absurd cc
  equal_among (And p q) s h e = absurd cc
  equal_among (Or p q) s h e = absurd cc

  -- the sides of an equation's contrary
  unequal_among : (f : Assertion) (s : Sides) → FormulaAmong seen f → unequal_sides f ≡ Some s → SidesAmong seen s
  unequal_among Yes s h e = absurd cc
  unequal_among No s h e = absurd cc
  unequal_among (Eq sort t u) s h e = absurd cc
  unequal_among (Ne sort t u) s h e =
      let sides : Sides = record { sort = sort; left = t; right = u } in subst (SidesAmong seen) (one_thing sides s e) h
  unequal_among (Le t u) s h e = absurd cc
  unequal_among (Lt t u) s h e = absurd cc
  unequal_among (And p q) s h e = absurd cc
  unequal_among (Or p q) s h e = absurd cc

  -- the terms of the formula with a number
  formula_there : (facts : List BranchFact) (n : ℕ) (f : Assertion) → AllNameAmong seen facts → formula_at facts n ≡ Some f →
      FormulaAmong seen f
  formula_there [] n f h e = absurd cc
  formula_there (Formal g ∷ ks) zero f h e = subst (FormulaAmong seen) (one_thing g f e) h.0
  formula_there (Sum g ∷ ks) zero f h e = absurd cc
  formula_there (k ∷ ks) (suc n) f h e = formula_there ks n f h.1 e

  equation_there : (facts : List BranchFact) (n : ℕ) (s : Sides) → AllNameAmong seen facts → equation_at facts n ≡ Some s → SidesAmong seen s
  equation_there facts n s h e =
      let f = followed_from (formula_at facts n) equal_sides s e in equal_among f.0 s (formula_there facts n f.0 h f.1) f.2

  contrary_there : (facts : List BranchFact) (n : ℕ) (s : Sides) → AllNameAmong seen facts → contrary_at facts n ≡ Some s → SidesAmong seen s
  contrary_there facts n s h e =
      let f = followed_from (formula_at facts n) unequal_sides s e in unequal_among f.0 s (formula_there facts n f.0 h f.1) f.2

  -- what is made where a test is passed
  made_if : (test : Bool) (f : Assertion) (k : BranchFact) → FormulaAmong seen f → formula_if test f ≡ Some k → IsFormulaAmong seen k
  made_if true f k h e = subst (IsFormulaAmong seen) (one_thing (Formal f) k e) h
  made_if false f k h e = absurd cc

  -- the first of two, where there is no other
  no_other : (o : Option BranchFact) (k : BranchFact) → or_other o None ≡ Some k → o ≡ Some k
  no_other None k e = absurd cc
  no_other (Some l) k e = e

  -- an equation or its contrary, turned
  turned : (o p : Option Sides) (k : BranchFact) → ((s : Sides) → o ≡ Some s → SidesAmong seen s) →
      ((s : Sides) → p ≡ Some s → SidesAmong seen s) → or_other (followed o turned_equation) (followed p turned_contrary) ≡ Some k →
      IsFormulaAmong seen k
  turned (Some s) p k one other e =
      let h = one s refl in subst (IsFormulaAmong seen) (one_thing (Formal (Eq s.sort s.right s.left)) k e) (h.1, h.0)
  turned None (Some s) k one other e =
      let h = other s refl in subst (IsFormulaAmong seen) (one_thing (Formal (Ne s.sort s.right s.left)) k e) (h.1, h.0)
  turned None None k one other e = absurd cc

  -- what was written to the array of which an element is read
  read_written : (t : Tree) (next : Written → Tree → Option BranchFact) (k : BranchFact) → read_of_written t next ≡ Some k →
      (w : Written) × (j : Tree) × (t ≡ Read (Write w.before w.index w.element) j) × (next w j ≡ Some k)
  read_written (Read (Write a i e) j) next k h = (record { before = a; index = i; element = e }, j, refl, h)
  read_written t next k h = absurd cc

  -- it is one of the terms too
  written_there : IsClosed seen → (t a i e j : Tree) → t ≡ Read (Write a i e) j → is_among seen t ≡ true → is_among seen e ≡ true
  written_there closed t a i e j is there =
      let read = closed (Read (Write a i e) j) (subst (λ (u : Tree). is_among seen u ≡ true) is there) in
      (closed (Write a i e) read.0).1.1.0

  module _ (sorts : Sorts) (terms : List TermId) (closed : IsClosed seen)
      (listed : (t : TermId) → IsListed terms t → is_among seen (tree_at seen t.0) ≡ true) where
    -- what a line adds
    line_adds : (facts : List BranchFact) (l : CertLine) (k : BranchFact) → AllNameAmong seen facts → IsLineOf terms l →
        adds sorts facts (line_in seen l) ≡ Some k → IsFormulaAmong seen k
    line_adds facts (line.Refl t) k all of e =
        let u = tree_at seen t.0 in
        let there = listed t of in
        subst (IsFormulaAmong seen) (one_thing (Formal (Eq (tree_sort sorts u) u u)) k e) (there, there)
    line_adds facts (line.Sym n) k all of e =
        turned (equation_at facts n) (contrary_at facts n) k (λ (s : Sides). equation_there facts n s all)
        (λ (s : Sides). contrary_there facts n s all)
        (no_other (or_other (followed (equation_at facts n) turned_equation) (followed (contrary_at facts n) turned_contrary)) k e)
    line_adds facts (line.Trans m n) k all of e =
        let made = no_other (followed (equation_at facts m) (λ (s : Sides). followed (equation_at facts n) (chained s))) k e in
        let one = followed_from (equation_at facts m) (λ (s : Sides). followed (equation_at facts n) (chained s)) k made in
        let other = followed_from (equation_at facts n) (chained one.0) k one.2 in
        made_if (same_tree one.0.right other.0.left) (Eq one.0.sort one.0.left other.0.right) k
        ((equation_there facts m one.0 all one.1).0, (equation_there facts n other.0 all other.1).1) other.2
    line_adds facts (line.Subst m n) k all of e =
        let made = no_other (followed (contrary_at facts m) (λ (s : Sides). followed (equation_at facts n) (substituted s))) k e in
        let one = followed_from (contrary_at facts m) (λ (s : Sides). followed (equation_at facts n) (substituted s)) k made in
        let other = followed_from (equation_at facts n) (substituted one.0) k one.2 in
        made_if (same_tree one.0.left other.0.left) (Ne one.0.sort other.0.right one.0.right) k
        ((equation_there facts n other.0 all other.1).1, (contrary_there facts m one.0 all one.1).1) other.2
    line_adds facts (line.Cong t u ns) k all of e =
        let v = tree_at seen t.0 in
        let w = tree_at seen u.0 in
        let is = ns.list.items in
        let test = is_inhabited_list is && (same_head v w && say_equal facts is (arguments_of v) (arguments_of w)) in
        let f = Eq (tree_sort sorts v) v w in
        made_if test f k (listed t of.0, listed u of.1) (no_other (formula_if test f) k e)
    line_adds facts (line.Same t u) k all of e =
        let v = tree_at seen t.0 in
        let w = tree_at seen u.0 in
        let test = compared_forms sorts v w int_eq in
        made_if test (Eq Num v w) k (listed t of.0, listed u of.1) (no_other (formula_if test (Eq Num v w)) k e)
    line_adds facts (line.Apart t u) k all of e =
        let v = tree_at seen t.0 in
        let w = tree_at seen u.0 in
        let test = compared_forms sorts v w (λ (y z : ℤ). not (int_eq y z)) in
        made_if test (Ne Num v w) k (listed t of.0, listed u of.1) (no_other (formula_if test (Ne Num v w)) k e)
    line_adds facts (line.Hit t n) k all of e =
        let v = tree_at seen t.0 in
        let there = listed t of in
        let r = read_written v (λ (w : Written) (j : Tree). formula_if (says_equal (equation_at facts n) w.index j) (Eq Num v w.element)) k e in
        made_if (says_equal (equation_at facts n) r.0.index r.1) (Eq Num v r.0.element) k
        (there, written_there closed v r.0.before r.0.index r.0.element r.1 r.2 there) r.3
    line_adds facts (line.Miss t u n) k all of e =
        let v = tree_at seen t.0 in
        let s = tree_at seen u.0 in
        let r = read_written v (λ (w : Written) (j : Tree).
        formula_if (says_equal (contrary_at facts n) w.index j && same_tree s (Read w.before j)) (Eq Num v s)) k e in
        made_if (says_equal (contrary_at facts n) r.0.index r.1 && same_tree s (Read r.0.before r.1)) (Eq Num v s) k
        (listed t of.0, listed u of.1) r.3
    line_adds facts (line.Both n) k all of e = absurd of
    line_adds facts (line.Either n) k all of e = absurd of
    line_adds facts (line.Cases t u) k all of e = absurd of
    line_adds facts (line.Order n) k all of e = absurd of
    line_adds facts (line.Lin n) k all of e = absurd of
    line_adds facts (line.Elim m n t) k all of e = absurd of
    line_adds facts (line.Tight n) k all of e = absurd of
    line_adds facts (line.Exact n) k all of e = absurd of
    line_adds facts (line.Close n) k all of e = absurd of
    line_adds facts (line.Clash m n) k all of e = absurd of

    -- what lines add
    pub explained_name : (facts : List BranchFact) (ls : List CertLine) (ks : List BranchFact) → AllNameAmong seen facts → AreLinesOf terms ls →
        added_by sorts facts (map (line_in seen) ls) ≡ Some ks → AreFormulasAmong seen ks
    explained_name facts [] ks all of e = subst (AreFormulasAmong seen) (one_thing [] ks e) tt
    explained_name facts (l ∷ ls) ks all of e =
        let first = added_first sorts facts (line_in seen l) (map (line_in seen) ls) ks e in
        let here = line_adds facts l first.0 all of.0 first.2 in
        let later = explained_name (facts ++ first.0 ∷ []) ls first.1 (names_more seen facts first.0 all here) of.1 first.3 in
        subst (AreFormulasAmong seen) (sym first.4) (here, later)
