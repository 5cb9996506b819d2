-- Terms with one head and with arguments that are equal by sort are equal by sort: also summaries,
-- since their code goes by the values that it needs.
use Rattle.sm_theory.proofs.Imports.{◌≡◌, ℕ, ℤ, ◌==◌, Bool, true, false, if◌then◌else◌, IsTrue, Option, Some, None, List, [], ◌∷◌, refl, subst, sym, ap, ◌∙◌, eqb-true, and_parts, SameAs, Sorts, Sort, Num, Arr, Code, Value, Store, number, array, with_element, zero_value, Tree, Read, Write, Neg, Add, Sub, Mul, Fun, Arguments, Over, Given, Structure, meaning, store_given, value_at, tree_sort, sort_named, IsSorted, AreArgumentsSorted, IsDeclaredIn, terms_given, arguments_of, same_names, same_head, same_head_of_summaries}
use Rattle.std.proofs.Common.{is_some, unwrap_or}
use Rattle.sm_syntax.specs.text.Conditions.{is_in}
use Rattle.sm_syntax.specs.claim.Stores.{put}
use Rattle.sm_syntax.specs.claim.Meaning.{run}
use Rattle.sm_deps.specs.Inputs.{inputs}
use Rattle.sm_deps.specs.Laws.{EndAlike, SameIfSorted}
use Rattle.sm_deps.proofs.InputsSound.{inputs_alike_by_sort}

-- a value is itself, as what has any sort
pub same_itself : (sort : Sort) (v : Value) → SameAs sort v v
same_itself Num v = refl
same_itself Arr v = λ (i : ℤ). refl

-- the other way round
pub same_turned : (sort : Sort) (v w : Value) → SameAs sort v w → SameAs sort w v
same_turned Num v w h = sym h
same_turned Arr v w h = λ (i : ℤ). sym (h i)

-- through a third value
pub same_joined : (sort : Sort) (u v w : Value) → SameAs sort u v → SameAs sort v w → SameAs sort u w
same_joined Num u v w h g = h ∙ g
same_joined Arr u v w h g = λ (i : ℤ). h i ∙ g i

-- terms that are equal in order, each as what has its own sort
abbrev pub Alike : Sorts → Structure → List Tree → List Tree → Type 0
Alike sorts m [] [] = Unit {0}
Alike sorts m (t ∷ ts) (u ∷ us) = SameAs (tree_sort sorts t) (meaning m t) (meaning m u) × Alike sorts m ts us
Alike sorts m ts us = ⊥

-- as numbers
as_numbers : (sorts : Sorts) (m : Structure) (t u : Tree) → tree_sort sorts t ≡ Num →
    SameAs (tree_sort sorts t) (meaning m t) (meaning m u) →
    number (meaning m t) ≡ number (meaning m u)
as_numbers sorts m t u sort h = subst (λ (s : Sort). SameAs s (meaning m t) (meaning m u)) sort h

-- as arrays
as_arrays : (sorts : Sorts) (m : Structure) (t u : Tree) → tree_sort sorts t ≡ Arr →
    SameAs (tree_sort sorts t) (meaning m t) (meaning m u) →
    (i : ℤ) → array (meaning m t) i ≡ array (meaning m u) i
as_arrays sorts m t u sort h = subst (λ (s : Sort). SameAs s (meaning m t) (meaning m u)) sort h

-- arrays with a new element at one index are equal where the parts are
elements_same : (f g : ℤ → ℤ) (i k y z j : ℤ) → f j ≡ g j → i ≡ k → y ≡ z → with_element f i y j ≡ with_element g k z j
elements_same f g i k y z j old place new = rw (place, new, old) refl

-- elements that are read are equal where array and index are
reads_same : (f g : ℤ → ℤ) (i j : ℤ) → ((k : ℤ) → f k ≡ g k) → i ≡ j → f i ≡ g j
reads_same f g i j same place = ap f place ∙ same j

-- a value is itself where there is a sort
same_if_itself : (o : Option Sort) (v : Value) → SameIfSorted o v v
same_if_itself None v = tt
same_if_itself (Some sort) v = same_itself sort v

-- stores that agree by sort, with new values of a name that are equal by its sort
puts_same : (sorts : Sorts) (s t : Store) (x : ℕ) (u v : Value) → SameIfSorted (sorts x) u v →
    ((z : ℕ) → SameIfSorted (sorts z) (s z) (t z)) →
    (z : ℕ) → SameIfSorted (sorts z) (put s x u z) (put t x v z)
puts_same sorts s t x u v new old z = go (z == x) refl where
  go : (b : Bool) → (z == x) ≡ b → SameIfSorted (sorts z) (if b then u else s z) (if b then v else t z)
  go true is = subst (λ (y : ℕ). SameIfSorted (sorts y) u v) (sym (eqb-true z x is)) new
  go false is = old z

-- arguments of the same names that are equal by sort make stores that agree by sort
given_same : (sorts : Sorts) (m : Structure) (ts us : Arguments) → IsTrue (same_names ts us) → AreArgumentsSorted sorts ts →
    Alike sorts m (terms_given ts) (terms_given us) →
    (z : ℕ) → SameIfSorted (sorts z) (store_given m ts z) (store_given m us z)
given_same sorts m Over Over names sorted alike z = same_if_itself (sorts z) zero_value
given_same sorts m (Given x t ts) (Given y u us) names sorted alike z =
    let p = and_parts (x == y) (same_names ts us) names in
    subst (λ (w : ℕ). SameIfSorted (sorts z) (put (store_given m ts) x (meaning m t) z) (put (store_given m us) w (meaning m u) z))
    (eqb-true x y p.0)
    (puts_same sorts (store_given m ts) (store_given m us) x (meaning m t) (meaning m u)
    (subst (λ (o : Option Sort). SameIfSorted o (meaning m t) (meaning m u)) (sym sorted.0) alike.0)
    (given_same sorts m ts us p.1 sorted.2 alike.1)
    z)
given_same sorts m ts us names sorted alike z = absurd cc

-- values that are equal by the sort of a declared name
as_declared : (o : Option Sort) (u v : Value) → IsTrue (is_some o) → SameIfSorted o u v → SameAs (unwrap_or o Num) u v
as_declared None u v as_facts h = absurd cc
as_declared (Some sort) u v as_facts h = h

-- the values of a name at ends that are alike
ends_same : (sorts : Sorts) (x : ℕ) (o p : Option Store) → IsDeclaredIn sorts x →
    EndAlike (λ (u v : Store). SameIfSorted (sorts x) (u x) (v x)) o p →
    SameAs (sort_named sorts x) (value_at o x) (value_at p x)
ends_same sorts x None None as_facts h = same_itself (sort_named sorts x) zero_value
ends_same sorts x None (Some t) as_facts h = absurd h
ends_same sorts x (Some s) None as_facts h = absurd h
ends_same sorts x (Some s) (Some t) as_facts h = as_declared (sorts x) (s x) (t x) as_facts h

-- summaries of one code and one name
summaries_same : (sorts : Sorts) (m : Structure) (c : Code) (x : ℕ) (ts us : Arguments) → IsSorted sorts (Fun c x ts) →
    IsTrue (same_names ts us) →
    Alike sorts m (terms_given ts) (terms_given us) → SameAs (sort_named sorts x) (meaning m (Fun c x ts)) (meaning m (Fun c x us))
summaries_same sorts m c x ts us sorted names alike =
    ends_same sorts x (run m.bound c (store_given m ts)) (run m.bound c (store_given m us)) sorted.1
    (inputs_alike_by_sort sorts m.bound c x (store_given m ts) (store_given m us) sorted.0
    (λ (z : ℕ) (there : IsTrue (is_in (inputs c x) z)). given_same sorts m ts us names sorted.2 alike z))

-- terms with one head whose arguments are equal by sort
pub cong_means : (sorts : Sorts) (m : Structure) (t u : Tree) → IsTrue (same_head t u) → IsSorted sorts t →
    Alike sorts m (arguments_of t) (arguments_of u) →
    SameAs (tree_sort sorts t) (meaning m t) (meaning m u)
cong_means sorts m (Read a i) (Read b j) head sorted alike =
    reads_same (array (meaning m a)) (array (meaning m b)) (number (meaning m i)) (number (meaning m j))
    (as_arrays sorts m a b sorted.1 alike.0) (as_numbers sorts m i j sorted.3 alike.1.0)
cong_means sorts m (Write a i d) (Write b j e) head sorted alike = λ (k : ℤ).
    elements_same (array (meaning m a)) (array (meaning m b)) (number (meaning m i)) (number (meaning m j)) (number (meaning m d))
    (number (meaning m e)) k
    (as_arrays sorts m a b sorted.1 alike.0 k) (as_numbers sorts m i j sorted.3 alike.1.0) (as_numbers sorts m d e sorted.5 alike.1.1.0)
cong_means sorts m (Neg t) (Neg u) head sorted alike = rw (as_numbers sorts m t u sorted.1 alike.0) refl
cong_means sorts m (Add r s) (Add t u) head sorted alike =
    rw (as_numbers sorts m r t sorted.1 alike.0, as_numbers sorts m s u sorted.3 alike.1.0) refl
cong_means sorts m (Sub r s) (Sub t u) head sorted alike =
    rw (as_numbers sorts m r t sorted.1 alike.0, as_numbers sorts m s u sorted.3 alike.1.0) refl
cong_means sorts m (Mul r s) (Mul t u) head sorted alike =
    rw (as_numbers sorts m r t sorted.1 alike.0, as_numbers sorts m s u sorted.3 alike.1.0) refl
cong_means sorts m (Fun c x ts) (Fun d y us) head sorted alike =
    let p = same_head_of_summaries c d x y ts us head in
    subst (λ (e : Code). SameAs (sort_named sorts x) (meaning m (Fun c x ts)) (meaning m (Fun e y us))) p.0
    (subst (λ (z : ℕ). SameAs (sort_named sorts x) (meaning m (Fun c x ts)) (meaning m (Fun c z us))) p.1
    (summaries_same sorts m c x ts us sorted p.2 alike))
cong_means sorts m t u head sorted alike = absurd cc
