-- Terms and formulas that are made of sorted ones are sorted.
use Rattle.sm_plan.proofs.Imports.{◌≡◌, ℕ, Bool, true, false, ◌==◌, if◌then◌else◌, Option, Some, None, List, [], ◌∷◌, refl, ap, sym, ◌∙◌, subst, eqb-true, same_Some, Expression, Condition, Cmp, Copy, Sorts, IsWellSortedExpression, IsWellSortedCondition, Sort, Num, Arr, Tree, Lit, Start, Havoc, Slot, Read, Neg, Add, Sub, Mul, Fun, Arguments, Given, Assertion, negate, conj, SymbolicStore, with_term, term_of, comparison_form, form_of, fill_term, fill_arguments, at_stores, all_at_stores, sort_named, tree_sort, IsDeclaredIn, IsSorted, AreArgumentsSorted, HasSort, IsFormSorted, AreFormsSorted, IsStoreSorted, named, negate_sorted, forms_append}
use Rattle.std.proofs.Common.{unwrap_or}
use Rattle.sm_syntax.specs.declared.tree.Cmp.TheVariants as cmp
use Rattle.sm_syntax.specs.claim.Syntax as syntax
use Rattle.sm_term.specs.Terms.{Cell, Write, Over}
use Rattle.sm_term.specs.Assertions.{Yes, No, Eq, Ne, Le, Lt, And, Or}

-- the sort by which a name is named
pub sort_is : (sorts : Sorts) (x : ℕ) (sort : Sort) → sorts x ≡ Some sort → sort_named sorts x ≡ sort
sort_is sorts x sort e = ap (λ (o : Option Sort). unwrap_or o Num) e

-- the term of a name that is declared
pub of_declared : (sorts : Sorts) (s : SymbolicStore) → IsStoreSorted sorts s → (x : ℕ) → IsDeclaredIn sorts x →
    HasSort sorts (sort_named sorts x) (s x)
of_declared sorts s good x here = good.declared x (sort_named sorts x) (named sorts x here)

-- the term of an expression
pub term_sorted : (sorts : Sorts) (e : Expression) (s : SymbolicStore) → IsWellSortedExpression sorts e → IsStoreSorted sorts s →
    HasSort sorts Num (term_of e s)
term_sorted sorts (syntax.Lit z) s w good = (tt, refl)
term_sorted sorts (syntax.Var x) s w good = good.declared x Num w
term_sorted sorts (syntax.Read a i) s w good =
    let array = good.declared a Arr w.0 in
    let index = term_sorted sorts i s w.1 good in
    ((array.0, array.1, index.0, index.1), refl)
term_sorted sorts (syntax.Neg e) s w good = (term_sorted sorts e s w good, refl)
term_sorted sorts (syntax.Plus d e) s w good =
    let one = term_sorted sorts d s w.0 good in
    let other = term_sorted sorts e s w.1 good in
    ((one.0, one.1, other.0, other.1), refl)
term_sorted sorts (syntax.Minus d e) s w good =
    let one = term_sorted sorts d s w.0 good in
    let other = term_sorted sorts e s w.1 good in
    ((one.0, one.1, other.0, other.1), refl)
term_sorted sorts (syntax.Times d e) s w good =
    let one = term_sorted sorts d s w.0 good in
    let other = term_sorted sorts e s w.1 good in
    ((one.0, one.1, other.0, other.1), refl)

-- a comparison of terms
compared_sorted : (sorts : Sorts) (op : Cmp) (t u : Tree) → HasSort sorts Num t → HasSort sorts Num u →
    IsFormSorted sorts (comparison_form op t u)
compared_sorted sorts cmp.Eq t u first second = (first, second)
compared_sorted sorts cmp.Ne t u first second = (first, second)
compared_sorted sorts cmp.Lt t u first second = (first, second)
compared_sorted sorts cmp.Le t u first second = (first, second)
compared_sorted sorts cmp.Gt t u first second = (second, first)
compared_sorted sorts cmp.Ge t u first second = (second, first)

-- the formula of a condition
pub form_sorted : (sorts : Sorts) (b : Condition) (s : SymbolicStore) → IsWellSortedCondition sorts b → IsStoreSorted sorts s →
    IsFormSorted sorts (form_of b s)
form_sorted sorts syntax.Yes s w good = tt
form_sorted sorts syntax.No s w good = tt
form_sorted sorts (syntax.Compare op d e) s w good =
    compared_sorted sorts op (term_of d s) (term_of e s) (term_sorted sorts d s w.0 good) (term_sorted sorts e s w.1 good)
form_sorted sorts (syntax.Not c) s w good = negate_sorted sorts (form_of c s) (form_sorted sorts c s w good)
form_sorted sorts (syntax.And c d) s w good = (form_sorted sorts c s w.0 good, form_sorted sorts d s w.1 good)
form_sorted sorts (syntax.Or c d) s w good = (form_sorted sorts c s w.0 good, form_sorted sorts d s w.1 good)

-- the parts of a conjunction
pub conj_sorted : (sorts : Sorts) (f : Assertion) → IsFormSorted sorts f → AreFormsSorted sorts (conj f)
conj_sorted sorts Yes b = tt
conj_sorted sorts No b = (tt, tt)
conj_sorted sorts (Eq sort t u) b = (b, tt)
conj_sorted sorts (Ne sort t u) b = (b, tt)
conj_sorted sorts (Le t u) b = (b, tt)
conj_sorted sorts (Lt t u) b = (b, tt)
conj_sorted sorts (And p q) b = forms_append sorts (conj p) (conj q) (conj_sorted sorts p b.0) (conj_sorted sorts q b.1)
conj_sorted sorts (Or p q) b = (b, tt)

mutual
  -- a term at stores, which has the sort of the term
  pub filled_sorted : (sorts : Sorts) (s : Copy → SymbolicStore) → ((c : Copy) → IsStoreSorted sorts (s c)) → (t : Tree) →
      IsSorted sorts t →
      HasSort sorts (tree_sort sorts t) (fill_term s t)
  filled_sorted sorts s all (Lit z) b = (tt, refl)
  filled_sorted sorts s all (Start x) b = (b, refl)
  filled_sorted sorts s all (Havoc j c x) b = (b, refl)
  filled_sorted sorts s all (Slot c x) b = of_declared sorts (s c) (all c) x b
  filled_sorted sorts s all Cell b = (tt, refl)
  filled_sorted sorts s all (Read a i) b =
      let array = filled_sorted sorts s all a b.0 in
      let index = filled_sorted sorts s all i b.2 in
      ((array.0, array.1 ∙ b.1, index.0, index.1 ∙ b.3), refl)
  filled_sorted sorts s all (Write a i e) b =
      let array = filled_sorted sorts s all a b.0 in
      let index = filled_sorted sorts s all i b.2 in
      let element = filled_sorted sorts s all e b.4 in
      ((array.0, array.1 ∙ b.1, index.0, index.1 ∙ b.3, element.0, element.1 ∙ b.5), refl)
  filled_sorted sorts s all (Neg t) b = let p = filled_sorted sorts s all t b.0 in ((p.0, p.1 ∙ b.1), refl)
  filled_sorted sorts s all (Add t u) b =
      let p = filled_sorted sorts s all t b.0 in
      let q = filled_sorted sorts s all u b.2 in
      ((p.0, p.1 ∙ b.1, q.0, q.1 ∙ b.3), refl)
  filled_sorted sorts s all (Sub t u) b =
      let p = filled_sorted sorts s all t b.0 in
      let q = filled_sorted sorts s all u b.2 in
      ((p.0, p.1 ∙ b.1, q.0, q.1 ∙ b.3), refl)
  filled_sorted sorts s all (Mul t u) b =
      let p = filled_sorted sorts s all t b.0 in
      let q = filled_sorted sorts s all u b.2 in
      ((p.0, p.1 ∙ b.1, q.0, q.1 ∙ b.3), refl)
  filled_sorted sorts s all (Fun c x args) b = ((b.0, b.1, given_sorted sorts s all args b.2), refl)

  -- arguments at stores are sorted, where they and the stores are
  pub given_sorted : (sorts : Sorts) (s : Copy → SymbolicStore) → ((c : Copy) → IsStoreSorted sorts (s c)) → (args : Arguments) →
      AreArgumentsSorted sorts args →
      AreArgumentsSorted sorts (fill_arguments s args)
  given_sorted sorts s all Over b = tt
  given_sorted sorts s all (Given x t rest) b =
      let p = filled_sorted sorts s all t b.1 in
      (b.0 ∙ ap (λ (sort : Sort). Some sort) (sym p.1), p.0, given_sorted sorts s all rest b.2)

-- a term with a sort
pub filled_has : (sorts : Sorts) (s : Copy → SymbolicStore) → ((c : Copy) → IsStoreSorted sorts (s c)) → (sort : Sort) (t : Tree) →
    HasSort sorts sort t →
    HasSort sorts sort (fill_term s t)
filled_has sorts s all sort t b = let p = filled_sorted sorts s all t b.0 in (p.0, p.1 ∙ b.1)

-- a formula at stores
pub at_stores_sorted : (sorts : Sorts) (s : Copy → SymbolicStore) → ((c : Copy) → IsStoreSorted sorts (s c)) → (f : Assertion) →
    IsFormSorted sorts f →
    IsFormSorted sorts (at_stores s f)
at_stores_sorted sorts s all Yes b = tt
at_stores_sorted sorts s all No b = tt
at_stores_sorted sorts s all (Eq sort t u) b = (filled_has sorts s all sort t b.0, filled_has sorts s all sort u b.1)
at_stores_sorted sorts s all (Ne sort t u) b = (filled_has sorts s all sort t b.0, filled_has sorts s all sort u b.1)
at_stores_sorted sorts s all (Le t u) b = (filled_has sorts s all Num t b.0, filled_has sorts s all Num u b.1)
at_stores_sorted sorts s all (Lt t u) b = (filled_has sorts s all Num t b.0, filled_has sorts s all Num u b.1)
at_stores_sorted sorts s all (And p q) b = (at_stores_sorted sorts s all p b.0, at_stores_sorted sorts s all q b.1)
at_stores_sorted sorts s all (Or p q) b = (at_stores_sorted sorts s all p b.0, at_stores_sorted sorts s all q b.1)

-- formulas at stores are sorted, where they and the stores are
pub all_at_stores_sorted : (sorts : Sorts) (s : Copy → SymbolicStore) → ((c : Copy) → IsStoreSorted sorts (s c)) → (fs : List Assertion) →
    AreFormsSorted sorts fs →
    AreFormsSorted sorts (all_at_stores s fs)
all_at_stores_sorted sorts s all [] b = tt
all_at_stores_sorted sorts s all (f ∷ fs) b = (at_stores_sorted sorts s all f b.0, all_at_stores_sorted sorts s all fs b.1)

-- a choice between two terms with a sort
pub choice_sorted : (sorts : Sorts) (sort : Sort) (b : Bool) (t u : Tree) → (b ≡ true → HasSort sorts sort t) →
    (b ≡ false → HasSort sorts sort u) →
    HasSort sorts sort (if b then t else u)
choice_sorted sorts sort true t u first second = first refl
choice_sorted sorts sort false t u first second = second refl

-- a new term for a name, with the name's sort
pub with_term_sorted : (sorts : Sorts) (s : SymbolicStore) (x : ℕ) (sort : Sort) (t : Tree) → IsStoreSorted sorts s → sorts x ≡ Some sort →
    HasSort sorts sort t →
    IsStoreSorted sorts (with_term s x t)
with_term_sorted sorts s x sort t good here new = record {
  declared = λ (y : ℕ) (other : Sort) (e : sorts y ≡ Some other).
      choice_sorted sorts other (y == x) t (s y)
      (λ (same : (y == x) ≡ true).
      let alike : sort ≡ other = same_Some sort other (sym here ∙ ap sorts (sym (eqb-true y x same)) ∙ e) in
      subst (λ (r : Sort). HasSort sorts r t) alike new)
      (λ (differ : (y == x) ≡ false). good.declared y other e);
  other = λ (y : ℕ) (e : sorts y ≡ None). left (y == x) y refl e;
}
  where
    left : (b : Bool) (y : ℕ) → (y == x) ≡ b → sorts y ≡ None → (if b then t else s y) ≡ Start y
    left true y same e = absurd (let none : None ≡ Some sort = sym e ∙ ap sorts (eqb-true y x same) ∙ here in cc)
    left false y same e = good.other y e
