-- The form of a term is kept for what it should be where those of its parts are.
use Rattle.sm_theory.proofs.Imports.{◌≡◌, ◌<◌, ℕ, ℤ, pos, negsuc, if◌then◌else◌, length, List, refl, sym, subst, ◌∙◌, get_or_from_slice_get, slice_get-get_or, slice_get_within, fits_form, Linear, combined, combination, Tree, Lit, Neg, Add, Sub, Mul, same_tree, Code, tree_at, tree_in, Term, AreApart, constant_form, atom_form, or_atom, scaled_form, product_form, linear_of, StandsAt, HaveOnePlace, IsKeptFor}
use Rattle.sm_num.specs.declared.kind.Kind.TheVariants as kind
use Rattle.sm_term.specs.declared.term.Term.TheVariants as row
use Rattle.sm_term.specs.declared.term.TermId.{TermId}
use Rattle.sm_theory.proofs.LinearStanding.{combined_stands}
use Rattle.sm_theory.proofs.LinearNumbers.{atom_stands, or_atom_stands, literal_stands, scaled_stands, product_stands}

-- the tree at a number stands there
pub stands_at : (trees : List Tree) (n : ℕ) → n < length trees → StandsAt trees n (tree_at trees n)
stands_at trees n h = slice_get-get_or trees n (Lit (pos 0)) h

-- where numbers of equal trees are equal, each has one place
pub one_place : (trees : List Tree) → AreApart trees → HaveOnePlace trees
one_place trees apart i j t first second =
    apart i j (slice_get_within trees i t first) (slice_get_within trees j t second)
    (get_or_from_slice_get trees i t (Lit (pos 0)) first ∙ sym (get_or_from_slice_get trees j t (Lit (pos 0)) second))

-- a term that is no number and no operation on numbers is one atom
pub is_atom : (codes : List Code) (trees : List Tree) (term : Term) →
    ((z : ℤ) → term ≡ row.Lit z → ⊥) →
    ((t : TermId) → term ≡ row.Neg t → ⊥) →
    ((t u : TermId) → term ≡ row.Add t u → ⊥) →
    ((t u : TermId) → term ≡ row.Sub t u → ⊥) →
    ((t u : TermId) → term ≡ row.Mul t u → ⊥) →
    linear_of (tree_in codes trees term) ≡ atom_form (tree_in codes trees term)
is_atom codes trees (row.Lit z) lit neg add sub mul = absurd (lit z refl)
is_atom codes trees (row.Neg t) lit neg add sub mul = absurd (neg t refl)
is_atom codes trees (row.Add t u) lit neg add sub mul = absurd (add t u refl)
is_atom codes trees (row.Sub t u) lit neg add sub mul = absurd (sub t u refl)
is_atom codes trees (row.Mul t u) lit neg add sub mul = absurd (mul t u refl)
is_atom codes trees (row.Start x) lit neg add sub mul = refl
is_atom codes trees (row.Havoc k c x) lit neg add sub mul = refl
is_atom codes trees (row.Slot c x) lit neg add sub mul = refl
is_atom codes trees row.Cell lit neg add sub mul = refl
is_atom codes trees (row.Read a i) lit neg add sub mul = refl
is_atom codes trees (row.Write a i e) lit neg add sub mul = refl
is_atom codes trees (row.Fun b x from args) lit neg add sub mul = refl

module _ (trees : List Tree) (apart : AreApart trees) (n : ℕ) (inside : n < length trees) where
  -- the form of the tree at n, by the tree
  at_number : (t : Tree) (h : Linear ℕ) → t ≡ tree_at trees n → (StandsAt trees n t → IsKeptFor trees h (linear_of t)) →
      IsKeptFor trees h (linear_of (tree_at trees n))
  at_number t h e keeps =
      subst (λ (u : Tree). IsKeptFor trees h (linear_of u)) e
      (keeps (subst (λ (u : Tree). StandsAt trees n u) (sym e) (stands_at trees n inside)))

  pub lit_kept : (z : ℤ) (h : Linear ℕ) → Lit z ≡ tree_at trees n →
      h ≡ (if fits_form z then constant_form z else atom_form n) → IsKeptFor trees h (linear_of (tree_at trees n))
  lit_kept z h e is =
      at_number (Lit z) h e
      (λ (at : StandsAt trees n (Lit z)).
      subst (λ (f : Linear ℕ). IsKeptFor trees f (linear_of (Lit z))) (sym is)
      (literal_stands trees (one_place trees apart) (λ (t : Tree). n) z at))

  pub neg_kept : (t : Tree) (f h : Linear ℕ) → Neg t ≡ tree_at trees n → IsKeptFor trees f (linear_of t) →
      h ≡ or_atom n (scaled_form (negsuc 0) f) → IsKeptFor trees h (linear_of (tree_at trees n))
  neg_kept t f h e part is =
      at_number (Neg t) h e
      (λ (at : StandsAt trees n (Neg t)).
      subst (λ (f : Linear ℕ). IsKeptFor trees f (linear_of (Neg t))) (sym is)
      (or_atom_stands trees (one_place trees apart) n (Neg t) (scaled_form (negsuc 0) f) (scaled_form (negsuc 0) (linear_of t)) at
      (scaled_stands trees (one_place trees apart) (negsuc 0) f (linear_of t) part)))

  pub add_kept : (t u : Tree) (f g h : Linear ℕ) → Add t u ≡ tree_at trees n → IsKeptFor trees f (linear_of t) →
      IsKeptFor trees g (linear_of u) → h ≡ or_atom n (combined f (pos 1) g (pos 1) kind.Eq) →
      IsKeptFor trees h (linear_of (tree_at trees n))
  add_kept t u f g h e left right is =
      at_number (Add t u) h e
      (λ (at : StandsAt trees n (Add t u)).
      subst (λ (f : Linear ℕ). IsKeptFor trees f (linear_of (Add t u))) (sym is)
      (or_atom_stands trees (one_place trees apart) n (Add t u) (combined f (pos 1) g (pos 1) kind.Eq)
      (combination same_tree (linear_of t) (pos 1) (linear_of u) (pos 1) kind.Eq) at
      (combined_stands trees (one_place trees apart) f g (linear_of t) (linear_of u) (pos 1) (pos 1) kind.Eq left right)))

  pub sub_kept : (t u : Tree) (f g h : Linear ℕ) → Sub t u ≡ tree_at trees n → IsKeptFor trees f (linear_of t) →
      IsKeptFor trees g (linear_of u) → h ≡ or_atom n (combined f (pos 1) g (negsuc 0) kind.Eq) →
      IsKeptFor trees h (linear_of (tree_at trees n))
  sub_kept t u f g h e left right is =
      at_number (Sub t u) h e
      (λ (at : StandsAt trees n (Sub t u)).
      subst (λ (f : Linear ℕ). IsKeptFor trees f (linear_of (Sub t u))) (sym is)
      (or_atom_stands trees (one_place trees apart) n (Sub t u) (combined f (pos 1) g (negsuc 0) kind.Eq)
      (combination same_tree (linear_of t) (pos 1) (linear_of u) (negsuc 0) kind.Eq) at
      (combined_stands trees (one_place trees apart) f g (linear_of t) (linear_of u) (pos 1) (negsuc 0) kind.Eq left right)))

  pub mul_kept : (t u : Tree) (f g h : Linear ℕ) → Mul t u ≡ tree_at trees n → IsKeptFor trees f (linear_of t) →
      IsKeptFor trees g (linear_of u) → h ≡ product_form n f g → IsKeptFor trees h (linear_of (tree_at trees n))
  mul_kept t u f g h e left right is =
      at_number (Mul t u) h e
      (λ (at : StandsAt trees n (Mul t u)).
      subst (λ (f : Linear ℕ). IsKeptFor trees f (linear_of (Mul t u))) (sym is)
      (product_stands trees (one_place trees apart) n (Mul t u) f g (linear_of t) (linear_of u) at left right))

  -- every other term is an atom
  pub atom_kept : (t : Tree) (h : Linear ℕ) → t ≡ tree_at trees n → linear_of t ≡ atom_form t → h ≡ atom_form n →
      IsKeptFor trees h (linear_of (tree_at trees n))
  atom_kept t h e form is =
      at_number t h e
      (λ (at : StandsAt trees n t).
      subst (λ (f : Linear ℕ). IsKeptFor trees f (linear_of t)) (sym is)
      (subst (λ (g : Linear Tree). IsKeptFor trees (atom_form n) g) (sym form)
      (atom_stands trees (one_place trees apart) n t at)))
