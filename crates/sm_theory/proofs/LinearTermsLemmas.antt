-- The linear form of a term: it has the term's value, its parts are reduced and in the range, and its
-- atoms are what the term is.
use Rattle.sm_theory.proofs.Imports.{◌≡◌, ℕ, ℤ, pos, negsuc, neg_ℤ, ◌+ℤ◌, ◌-ℤ◌, ◌*ℤ◌, Bool, true, false, if◌then◌else◌, IsTrue, List, [], ◌∷◌, filter, refl, sym, ap, subst, ◌∙◌, arith, Sorts, Num, fits_form, Linear, sum_of_parts, Outcome, Fits, Leaves, combined_number, formed, scaled, combination, has_no_part, value_of_form, sums, ring, one_mul, mul-neg_left, other_product_alone, Gives, gives_more, gives_both, AreReduced, combination_gives_value, AreAmong, IsReduced, combination_reduced, combination_among, Tree, Lit, Start, Havoc, Slot, Cell, Read, Write, Neg, Add, Sub, Mul, Fun, Structure, HasSort, IsBelow, same_tree, number_meant, constant_form, atom_form, or_atom, scaled_form, product_form, linear_of}
use Rattle.sm_num.specs.declared.kind.Kind.TheVariants as kind
use lib.IntN.{*ℤ_comm}
use Rattle.sm_theory.proofs.LinearSameTree.{tree_sound, tree_reflexive}

-- what the atom has, and the form that was computed where there is one
pub or_atom_has : (P : Linear Tree → Type 0) (t : Tree) (outcome : Outcome (Linear Tree)) → P (atom_form t) → Gives P outcome →
    P (or_atom t outcome)
or_atom_has P t (Fits f) atom given = given
or_atom_has P t (Leaves operation y z) atom given = atom

-- what is so of each step that makes the form of a term, is so of the form
pub record Steps (P : Tree → Linear Tree → Type 0) : Type 0 where
  pub literal : (z : ℤ) → IsTrue (fits_form z) → P (Lit z) (constant_form z)
  pub atom : (t : Tree) → P t (atom_form t)
  pub contrary : (t : Tree) (f : Linear Tree) → P t f → Gives (P (Neg t)) (scaled_form (negsuc 0) f)
  pub sum : (t u : Tree) (f g : Linear Tree) → P t f → P u g → Gives (P (Add t u)) (combination same_tree f (pos 1) g (pos 1) kind.Eq)
  pub difference : (t u : Tree) (f g : Linear Tree) → P t f → P u g →
      Gives (P (Sub t u)) (combination same_tree f (pos 1) g (negsuc 0) kind.Eq)
  pub first : (t u : Tree) (f g : Linear Tree) → P t f → P u g → has_no_part f.parts ≡ true → Gives (P (Mul t u)) (scaled_form f.constant g)
  pub second : (t u : Tree) (f g : Linear Tree) → P t f → P u g → has_no_part g.parts ≡ true →
      Gives (P (Mul t u)) (scaled_form g.constant f)

module _ (P : Tree → Linear Tree → Type 0) (steps : Steps P) where
  literal_has : (z : ℤ) (b : Bool) → fits_form z ≡ b → P (Lit z) (if b then constant_form z else atom_form (Lit z))
  literal_has z true e = steps.literal z e
  literal_has z false e = steps.atom (Lit z)

  product_has : (t u : Tree) (f g : Linear Tree) → P t f → P u g → P (Mul t u) (product_form (Mul t u) f g)
  product_has t u f g left right = by (has_no_part f.parts) (has_no_part g.parts) refl refl
    where
      by : (b c : Bool) → has_no_part f.parts ≡ b → has_no_part g.parts ≡ c →
          P (Mul t u) (if b then or_atom (Mul t u) (scaled_form f.constant g) else if c then or_atom (Mul t u)
          (scaled_form g.constant f) else atom_form (Mul t u))
      by true c e d = or_atom_has (P (Mul t u)) (Mul t u) (scaled_form f.constant g) (steps.atom (Mul t u))
          (steps.first t u f g left right e)
      by false true e d = or_atom_has (P (Mul t u)) (Mul t u) (scaled_form g.constant f) (steps.atom (Mul t u))
          (steps.second t u f g left right d)
      by false false e d = steps.atom (Mul t u)

  pub linear_has : (t : Tree) → P t (linear_of t)
  linear_has (Lit z) = literal_has z (fits_form z) refl
  linear_has (Start x) = steps.atom (Start x)
  linear_has (Havoc k c x) = steps.atom (Havoc k c x)
  linear_has (Slot c x) = steps.atom (Slot c x)
  linear_has Cell = steps.atom Cell
  linear_has (Read a i) = steps.atom (Read a i)
  linear_has (Write a i e) = steps.atom (Write a i e)
  linear_has (Neg t) = or_atom_has (P (Neg t)) (Neg t) (scaled_form (negsuc 0) (linear_of t)) (steps.atom (Neg t))
      (steps.contrary t (linear_of t) (linear_has t))
  linear_has (Add t u) =
      or_atom_has (P (Add t u)) (Add t u) (combination same_tree (linear_of t) (pos 1) (linear_of u) (pos 1) kind.Eq) (steps.atom (Add t u))
      (steps.sum t u (linear_of t) (linear_of u) (linear_has t) (linear_has u))
  linear_has (Sub t u) =
      or_atom_has (P (Sub t u)) (Sub t u) (combination same_tree (linear_of t) (pos 1) (linear_of u) (negsuc 0) kind.Eq)
      (steps.atom (Sub t u))
      (steps.difference t u (linear_of t) (linear_of u) (linear_has t) (linear_has u))
  linear_has (Mul t u) = product_has t u (linear_of t) (linear_of u) (linear_has t) (linear_has u)
  linear_has (Fun c x args) = steps.atom (Fun c x args)

-- parts that aren't there
no_part_sum : {A : Type 0} (v : A → ℤ) (ps : List (A × ℤ)) → has_no_part ps ≡ true → sum_of_parts v ps ≡ pos 0
no_part_sum v [] e = refl
no_part_sum v (p ∷ ps) e = absurd cc

-- parts that all pass stay
all_pass : {A : Type 0} (ps : List A) → filter (λ p. true) ps ≡ ps
all_pass [] = refl
all_pass (p ∷ ps) = ap (λ rest. p ∷ rest) (all_pass ps)

-- a multiple is a sum with nothing
pub scaled_is_combination : {A : Type 0} (same : A → A → Bool) (z : ℤ) (f : Linear A) →
    scaled_form z f ≡ combination same (constant_form (pos 0)) (pos 0) f z kind.Eq
scaled_is_combination same z f =
    ap (λ (c : Outcome ℤ). formed (scaled z f.parts) c kind.Eq) (other_product_alone (pos 0) z f.constant)
    ∙ ap (λ ps. formed (scaled z ps) (combined_number (pos 0) (pos 0) z f.constant) kind.Eq) (sym (all_pass f.parts))

-- so what is so of sums is so of multiples
of_multiple : (P : Linear Tree → Type 0) (z : ℤ) (f : Linear Tree) →
    Gives P (combination same_tree (constant_form (pos 0)) (pos 0) f z kind.Eq) → Gives P (scaled_form z f)
of_multiple P z f given = subst (Gives P) (sym (scaled_is_combination same_tree z f)) given

-- z times a form has z times its value
scaled_form_value : (v : Tree → ℤ) (z : ℤ) (f : Linear Tree) → Gives (λ (h : Linear Tree). value_of_form v h ≡ z *ℤ value_of_form v f)
    (scaled_form z f)
scaled_form_value v z f =
    of_multiple (λ (h : Linear Tree). value_of_form v h ≡ z *ℤ value_of_form v f) z f
    (gives_more _ _ (combination same_tree (constant_form (pos 0)) (pos 0) f z kind.Eq)
    (combination_gives_value v same_tree tree_sound (constant_form (pos 0)) f (pos 0) z kind.Eq tt)
    (λ (h : Linear Tree) (e : value_of_form v h ≡ (pos 0 *ℤ (pos 0 +ℤ pos 0)) +ℤ (z *ℤ value_of_form v f)). e
    ∙ simp ring (omega (arith, sums))))

-- it is reduced where the form is
scaled_form_reduced : (z : ℤ) (f : Linear Tree) → AreReduced same_tree f.parts → Gives (IsReduced same_tree) (scaled_form z f)
scaled_form_reduced z f reduced =
    of_multiple (IsReduced same_tree) z f (combination_reduced same_tree tree_sound tree_reflexive (constant_form (pos 0)) f
    (pos 0) z kind.Eq tt reduced)

-- what is so of each atom of a form
abbrev pub FormAtoms : (Tree → Type 0) → Linear Tree → Type 0
FormAtoms P f = AreAmong P f.parts

-- a multiple has the form's atoms
scaled_form_atoms : (P : Tree → Type 0) (z : ℤ) (f : Linear Tree) → FormAtoms P f → Gives (FormAtoms P) (scaled_form z f)
scaled_form_atoms P z f each = of_multiple (FormAtoms P) z f (combination_among same_tree P (constant_form (pos 0)) f
    (pos 0) z kind.Eq tt each)

-- reduced steps
reduced_steps : Steps (λ t f. IsReduced same_tree f)
reduced_steps = record {
  literal = λ z fits. record { parts = tt; numbers = tt; constant = fits };
  atom = λ t. record { parts = (λ zero. absurd cc, tt, tt); numbers = (refl, tt); constant = refl };
  contrary = λ t f reduced. scaled_form_reduced (negsuc 0) f reduced.parts;
  sum = λ t u f g left right. combination_reduced same_tree tree_sound tree_reflexive f g (pos 1) (pos 1) kind.Eq left.parts right.parts;
  difference = λ t u f g left right. combination_reduced same_tree tree_sound tree_reflexive f g (pos 1)
      (negsuc 0) kind.Eq left.parts right.parts;
  first = λ t u f g left right none. scaled_form_reduced f.constant g right.parts;
  second = λ t u f g left right none. scaled_form_reduced g.constant f left.parts;
}

-- in the form of a term each atom stands once, with a coefficient that isn't 0
pub linear_reduced : (t : Tree) → IsReduced same_tree (linear_of t)
linear_reduced t = linear_has (λ t f. IsReduced same_tree f) reduced_steps t

module _ (m : Structure) where
  -- a reduced form with the value of a term
  abbrev HasValueOf : Tree → Linear Tree → Type 0
  HasValueOf t f = IsReduced same_tree f × (value_of_form (number_meant m) f ≡ number_meant m t)

  atom_value : (t : Tree) → value_of_form (number_meant m) (atom_form t) ≡ number_meant m t
  atom_value t = let one = one_mul (number_meant m t) in omega (arith, sums)

  sum_value : (p q x y r s : ℤ) → x ≡ r → y ≡ s → (p *ℤ x) +ℤ (q *ℤ y) ≡ (p *ℤ r) +ℤ (q *ℤ s)
  sum_value p q x y r s first second = rw (first, second) refl

  value_steps : Steps HasValueOf
  value_steps = record {
    literal = λ z fits. (reduced_steps.literal z fits, omega (arith, sums));
    atom = λ t. (reduced_steps.atom t, atom_value t);
    contrary = λ t f has.
        gives_both (IsReduced same_tree) _ (scaled_form (negsuc 0) f) (scaled_form_reduced (negsuc 0) f has.0.parts)
        (gives_more _ _ (scaled_form (negsuc 0) f) (scaled_form_value (number_meant m) (negsuc 0) f)
        (λ (h : Linear Tree) (e : value_of_form (number_meant m) h ≡ negsuc 0 *ℤ value_of_form (number_meant m) f).
        e ∙ ap (λ (x : ℤ). negsuc 0 *ℤ x) has.1 ∙ mul-neg_left (pos 1) (number_meant m t) ∙ ap neg_ℤ (one_mul (number_meant m t))));
    sum = λ t u f g left right.
        gives_both (IsReduced same_tree) _ (combination same_tree f (pos 1) g (pos 1) kind.Eq)
        (combination_reduced same_tree tree_sound tree_reflexive f g (pos 1) (pos 1) kind.Eq left.0.parts right.0.parts)
        (gives_more _ _ (combination same_tree f (pos 1) g (pos 1) kind.Eq)
        (combination_gives_value (number_meant m) same_tree tree_sound f g (pos 1) (pos 1) kind.Eq left.0.parts)
        (λ (h : Linear Tree) (e : value_of_form (number_meant m) h ≡ (pos 1 *ℤ value_of_form (number_meant m) f) +ℤ
        (pos 1 *ℤ value_of_form (number_meant m) g)).
        e ∙ sum_value (pos 1) (pos 1) _ _ _ _ left.1 right.1 ∙ simp ring (omega (arith, sums))));
    difference = λ t u f g left right.
        gives_both (IsReduced same_tree) _ (combination same_tree f (pos 1) g (negsuc 0) kind.Eq)
        (combination_reduced same_tree tree_sound tree_reflexive f g (pos 1) (negsuc 0) kind.Eq left.0.parts right.0.parts)
        (gives_more _ _ (combination same_tree f (pos 1) g (negsuc 0) kind.Eq)
        (combination_gives_value (number_meant m) same_tree tree_sound f g (pos 1) (negsuc 0) kind.Eq left.0.parts)
        (λ (h : Linear Tree) (e : value_of_form (number_meant m) h ≡ (pos 1 *ℤ value_of_form (number_meant m) f) +ℤ
        (negsuc 0 *ℤ value_of_form (number_meant m) g)).
        e ∙ sum_value (pos 1) (negsuc 0) _ _ _ _ left.1 right.1 ∙ less (number_meant m t) (number_meant m u)));
    first = λ t u f g left right none.
        gives_both (IsReduced same_tree) _ (scaled_form f.constant g) (scaled_form_reduced f.constant g right.0.parts)
        (gives_more _ _ (scaled_form f.constant g) (scaled_form_value (number_meant m) f.constant g)
        (λ (h : Linear Tree) (e : value_of_form (number_meant m) h ≡ f.constant *ℤ value_of_form (number_meant m) g).
        e ∙ product f.constant (value_of_form (number_meant m) g) (number_meant m t) (number_meant m u)
        (number_alone f none (number_meant m t) left.1) right.1));
    second = λ t u f g left right none.
        gives_both (IsReduced same_tree) _ (scaled_form g.constant f) (scaled_form_reduced g.constant f left.0.parts)
        (gives_more _ _ (scaled_form g.constant f) (scaled_form_value (number_meant m) g.constant f)
        (λ (h : Linear Tree) (e : value_of_form (number_meant m) h ≡ g.constant *ℤ value_of_form (number_meant m) f).
        e ∙ product g.constant (value_of_form (number_meant m) f) (number_meant m u) (number_meant m t)
        (number_alone g none (number_meant m u) right.1) left.1 ∙ *ℤ_comm (number_meant m u) (number_meant m t)));
  }
    where
      less : (x y : ℤ) → (pos 1 *ℤ x) +ℤ (negsuc 0 *ℤ y) ≡ x -ℤ y
      less x y = let one = one_mul x in let other = mul-neg_left (pos 1) y in let back = one_mul y in omega (arith, sums)

      product : (c w x y : ℤ) → c ≡ x → w ≡ y → c *ℤ w ≡ x *ℤ y
      product c w x y first second = rw (first, second) refl

      number_alone : (f : Linear Tree) → has_no_part f.parts ≡ true → (x : ℤ) → value_of_form (number_meant m) f ≡ x → f.constant ≡ x
      number_alone f none x e = let zero = no_part_sum (number_meant m) f.parts none in omega (arith, sums)

  -- the form of a term has the value that the term means
  pub linear_value : (t : Tree) → value_of_form (number_meant m) (linear_of t) ≡ number_meant m t
  linear_value t = (linear_has HasValueOf value_steps t).1

-- atoms of the form of a term, where what is so of an operation is so of its parts
pub record IsInherited (P : Tree → Type 0) : Type 0 where
  pub of_contrary : (t : Tree) → P (Neg t) → P t
  pub of_sum : (t u : Tree) → P (Add t u) → P t × P u
  pub of_difference : (t u : Tree) → P (Sub t u) → P t × P u
  pub of_product : (t u : Tree) → P (Mul t u) → P t × P u

-- each atom is as the term is
pub linear_atoms : (P : Tree → Type 0) → IsInherited P → (t : Tree) → P t → FormAtoms P (linear_of t)
linear_atoms P inherited t = linear_has (λ t f. P t → FormAtoms P f) steps t
  where
    given : (t : Tree) (outcome : Outcome (Linear Tree)) → (P t → Gives (FormAtoms P) outcome) →
        Gives (λ (f : Linear Tree). P t → FormAtoms P f) outcome
    given t (Fits f) step = step
    given t (Leaves operation y z) step = tt

    steps : Steps (λ t f. P t → FormAtoms P f)
    steps = record {
      literal = λ z fits is. tt;
      atom = λ t is. (is, tt);
      contrary = λ t f atoms. given (Neg t) (scaled_form (negsuc 0) f)
          (λ is. scaled_form_atoms P (negsuc 0) f (atoms (inherited.of_contrary t is)));
      sum = λ t u f g left right.
          given (Add t u) (combination same_tree f (pos 1) g (pos 1) kind.Eq)
          (λ is. let both = inherited.of_sum t u is in combination_among same_tree P f g (pos 1) (pos 1) kind.Eq (left both.0)
          (right both.1));
      difference = λ t u f g left right.
          given (Sub t u) (combination same_tree f (pos 1) g (negsuc 0) kind.Eq)
          (λ is. let both = inherited.of_difference t u is in combination_among same_tree P f g (pos 1) (negsuc 0) kind.Eq (left both.0)
          (right both.1));
      first = λ t u f g left right none. given (Mul t u) (scaled_form f.constant g)
          (λ is. scaled_form_atoms P f.constant g (right (inherited.of_product t u is).1));
      second = λ t u f g left right none. given (Mul t u) (scaled_form g.constant f)
          (λ is. scaled_form_atoms P g.constant f (left (inherited.of_product t u is).0));
    }

-- the parts of an operation on numbers are sorted numbers
pub sorted_inherited : (sorts : Sorts) → IsInherited (HasSort sorts Num)
sorted_inherited sorts = record {
  of_contrary = λ t is. (is.0.0, is.0.1);
  of_sum = λ t u is. ((is.0.0, is.0.1), (is.0.2, is.0.3));
  of_difference = λ t u is. ((is.0.0, is.0.1), (is.0.2, is.0.3));
  of_product = λ t u is. ((is.0.0, is.0.1), (is.0.2, is.0.3));
}

-- the parts of an operation on numbers name no later new value than the operation
pub below_inherited : (node : ℕ) → IsInherited (IsBelow node)
below_inherited node = record {
  of_contrary = λ t is. is;
  of_sum = λ t u is. (is.0, is.1);
  of_difference = λ t u is. (is.0, is.1);
  of_product = λ t u is. (is.0, is.1);
}
