-- New values of one node, and what doesn't name them.
use Rattle.sm_term.proofs.Imports.{◌≡◌, ◌↔◌, ◌≤◌, ℕ, Bool, if◌then◌else◌, List, [], ◌∷◌, ◌++◌, refl, ap, arith, ne_eqb, Store, run, Copy, Tree, Start, Havoc, Slot, Write, Add, Sub, Mul, Fun, Arguments, Over, Given, Structure, value_at, meaning, store_given, with_havoc, Assertion, Holds, AllHold}
use Rattle.sm_term.specs.Terms.{Lit, Cell, Read, Neg}
use Rattle.sm_term.specs.Assertions.{Yes, No, Eq, Ne, Le, Lt, And, Or}
use Rattle.sm_term.specs.Fresh.{IsBelow, AreBelow, IsFormBelow, AreFormsBelow}
use Rattle.sm_term.proofs.SlotsLemmas.{same_at, both_at, some_at, not_at, at_most_at, less_at}

mutual
  -- a term that doesn't name a node's new values means the same whatever they are
  pub fresh_meaning : (m : Structure) (k : ℕ) (new : Copy → Store) (t : Tree) → IsBelow k t → meaning (with_havoc m k new) t ≡ meaning m t
  fresh_meaning m k new (Lit z) b = refl
  fresh_meaning m k new (Start x) b = refl
  fresh_meaning m k new (Havoc j c x) b =
      ap (λ (here : Bool). (if here then new c else m.havoc j c) x) (ne_eqb j k (λ (e : j ≡ k). omega arith))
  fresh_meaning m k new (Slot c x) b = refl
  fresh_meaning m k new Cell b = refl
  fresh_meaning m k new (Read a i) b = rw (fresh_meaning m k new a b.0, fresh_meaning m k new i b.1) refl
  fresh_meaning m k new (Write a i e) b = rw (fresh_meaning m k new a b.0, fresh_meaning m k new i b.1, fresh_meaning m k new e b.2) refl
  fresh_meaning m k new (Neg t) b = rw (fresh_meaning m k new t b) refl
  fresh_meaning m k new (Add t u) b = rw (fresh_meaning m k new t b.0, fresh_meaning m k new u b.1) refl
  fresh_meaning m k new (Sub t u) b = rw (fresh_meaning m k new t b.0, fresh_meaning m k new u b.1) refl
  fresh_meaning m k new (Mul t u) b = rw (fresh_meaning m k new t b.0, fresh_meaning m k new u b.1) refl
  fresh_meaning m k new (Fun c x args) b = ap (λ (g : Store). value_at (run m.bound c g) x) (fresh_given m k new args b)

  -- arguments that don't name a node's new values give one store whatever these are
  pub fresh_given : (m : Structure) (k : ℕ) (new : Copy → Store) (args : Arguments) → AreBelow k args
      → store_given (with_havoc m k new) args ≡ store_given m args
  fresh_given m k new Over b = refl
  fresh_given m k new (Given x t rest) b = rw (fresh_meaning m k new t b.0, fresh_given m k new rest b.1) refl

-- a formula that doesn't name them says the same
pub fresh_means : (m : Structure) (k : ℕ) (new : Copy → Store) (f : Assertion) → IsFormBelow k f → Holds (with_havoc m k new) f ↔ Holds m f
fresh_means m k new Yes b = (λ (h : Unit {0}). tt, λ (h : Unit {0}). tt)
fresh_means m k new No b = (λ (h : ⊥). h, λ (h : ⊥). h)
fresh_means m k new (Eq sort t u) b = same_at sort _ _ _ _ (fresh_meaning m k new t b.0) (fresh_meaning m k new u b.1)
fresh_means m k new (Ne sort t u) b = not_at _ _ (same_at sort _ _ _ _ (fresh_meaning m k new t b.0) (fresh_meaning m k new u b.1))
fresh_means m k new (Le t u) b = at_most_at _ _ _ _ (fresh_meaning m k new t b.0) (fresh_meaning m k new u b.1)
fresh_means m k new (Lt t u) b = less_at _ _ _ _ (fresh_meaning m k new t b.0) (fresh_meaning m k new u b.1)
fresh_means m k new (And p q) b = both_at _ _ _ _ (fresh_means m k new p b.0) (fresh_means m k new q b.1)
fresh_means m k new (Or p q) b = some_at _ _ _ _ (fresh_means m k new p b.0) (fresh_means m k new q b.1)

-- formulas that don't name a node's new values say the same whatever these are
pub fresh_all : (m : Structure) (k : ℕ) (new : Copy → Store) (fs : List Assertion) → AreFormsBelow k fs
    → AllHold (with_havoc m k new) fs ↔ AllHold m fs
fresh_all m k new [] b = (λ (h : Unit {0}). tt, λ (h : Unit {0}). tt)
fresh_all m k new (f ∷ fs) b = both_at _ _ _ _ (fresh_means m k new f b.0) (fresh_all m k new fs b.1)

mutual
  -- what is below a bound is below a greater one
  pub tree_later : (k l : ℕ) → k ≤ l → (t : Tree) → IsBelow k t → IsBelow l t
  tree_later k l more (Lit z) b = tt
  tree_later k l more (Start x) b = tt
  tree_later k l more (Havoc j c x) b = omega arith
  tree_later k l more (Slot c x) b = tt
  tree_later k l more Cell b = tt
  tree_later k l more (Read a i) b = (tree_later k l more a b.0, tree_later k l more i b.1)
  tree_later k l more (Write a i e) b = (tree_later k l more a b.0, tree_later k l more i b.1, tree_later k l more e b.2)
  tree_later k l more (Neg t) b = tree_later k l more t b
  tree_later k l more (Add t u) b = (tree_later k l more t b.0, tree_later k l more u b.1)
  tree_later k l more (Sub t u) b = (tree_later k l more t b.0, tree_later k l more u b.1)
  tree_later k l more (Mul t u) b = (tree_later k l more t b.0, tree_later k l more u b.1)
  tree_later k l more (Fun c x args) b = given_later k l more args b

  -- arguments that are below a bound are below a greater one
  pub given_later : (k l : ℕ) → k ≤ l → (args : Arguments) → AreBelow k args → AreBelow l args
  given_later k l more Over b = tt
  given_later k l more (Given x t rest) b = (tree_later k l more t b.0, given_later k l more rest b.1)

-- a formula that is below a bound is below a greater one
pub form_later : (k l : ℕ) → k ≤ l → (f : Assertion) → IsFormBelow k f → IsFormBelow l f
form_later k l more Yes b = tt
form_later k l more No b = tt
form_later k l more (Eq sort t u) b = (tree_later k l more t b.0, tree_later k l more u b.1)
form_later k l more (Ne sort t u) b = (tree_later k l more t b.0, tree_later k l more u b.1)
form_later k l more (Le t u) b = (tree_later k l more t b.0, tree_later k l more u b.1)
form_later k l more (Lt t u) b = (tree_later k l more t b.0, tree_later k l more u b.1)
form_later k l more (And p q) b = (form_later k l more p b.0, form_later k l more q b.1)
form_later k l more (Or p q) b = (form_later k l more p b.0, form_later k l more q b.1)

-- formulas that are below a bound are below a greater one
pub forms_later : (k l : ℕ) → k ≤ l → (fs : List Assertion) → AreFormsBelow k fs → AreFormsBelow l fs
forms_later k l more [] b = tt
forms_later k l more (f ∷ fs) b = (form_later k l more f b.0, forms_later k l more fs b.1)

-- formulas one after the other
pub below_append : (k : ℕ) (fs gs : List Assertion) → AreFormsBelow k fs → AreFormsBelow k gs → AreFormsBelow k (fs ++ gs)
below_append k [] gs first second = second
below_append k (f ∷ fs) gs first second = (first.0, below_append k fs gs first.1 second)
