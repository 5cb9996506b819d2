-- Slots and the terms that stand for them.
use Rattle.sm_term.proofs.Imports.{◌≡◌, ◌↔◌, List, [], ◌∷◌, refl, ap, ◌≤ℤ◌, ◌<ℤ◌, Sort, Value, number, Store, run, Copy, SameAs, Tree, Start, Havoc, Slot, Write, Add, Sub, Mul, Fun, Arguments, Over, Given, Structure, value_at, meaning, store_given, with_slots, Assertion, Holds, AllHold, SymbolicStore, store_meant}
use Rattle.sm_term.specs.Terms.{Lit, Cell, Read, Neg}
use Rattle.sm_term.specs.Assertions.{Yes, No, Eq, Ne, Le, Lt, And, Or}
use Rattle.sm_term.specs.Slots.{fill_term, fill_arguments, at_stores, all_at_stores}

-- the structure with the meanings of symbolic stores at the slots
abbrev pub slotted : Structure → (Copy → SymbolicStore) → Structure
slotted m s = with_slots m (λ (c : Copy). store_meant m (s c))

mutual
  -- a term at stores means what it means with their values at the slots
  pub filled_means : (m : Structure) (s : Copy → SymbolicStore) (t : Tree) → meaning m (fill_term s t) ≡ meaning (slotted m s) t
  filled_means m s (Lit z) = refl
  filled_means m s (Start x) = refl
  filled_means m s (Havoc k c x) = refl
  filled_means m s (Slot c x) = refl
  filled_means m s Cell = refl
  filled_means m s (Read a i) = rw (filled_means m s a, filled_means m s i) refl
  filled_means m s (Write a i e) = rw (filled_means m s a, filled_means m s i, filled_means m s e) refl
  filled_means m s (Neg t) = rw (filled_means m s t) refl
  filled_means m s (Add t u) = rw (filled_means m s t, filled_means m s u) refl
  filled_means m s (Sub t u) = rw (filled_means m s t, filled_means m s u) refl
  filled_means m s (Mul t u) = rw (filled_means m s t, filled_means m s u) refl
  filled_means m s (Fun c x args) = ap (λ (g : Store). value_at (run m.bound c g) x) (filled_given m s args)

  -- arguments at stores give the store that they give with the stores' values at the slots
  pub filled_given : (m : Structure) (s : Copy → SymbolicStore) (args : Arguments)
      → store_given m (fill_arguments s args) ≡ store_given (slotted m s) args
  filled_given m s Over = refl
  filled_given m s (Given x t rest) = rw (filled_means m s t, filled_given m s rest) refl

-- what one meaning of two terms says of both meanings
pub same_at : (sort : Sort) (v w x y : Value) → v ≡ x → w ≡ y → SameAs sort v w ↔ SameAs sort x y
same_at sort v w x y first second = rw (first, second) (λ (h : SameAs sort x y). h, λ (h : SameAs sort x y). h)

-- both of two
pub both_at : (P Q R S : Type 0) → P ↔ R → Q ↔ S → (P × Q) ↔ (R × S)
both_at P Q R S first second = (λ (h : P × Q). (first.0 h.0, second.0 h.1), λ (h : R × S). (first.1 h.0, second.1 h.1))

-- not both failing
pub some_at : (P Q R S : Type 0) → P ↔ R → Q ↔ S → ((P → ⊥) → (Q → ⊥) → ⊥) ↔ ((R → ⊥) → (S → ⊥) → ⊥)
some_at P Q R S first second = (
  λ (h : (P → ⊥) → (Q → ⊥) → ⊥) (left : R → ⊥) (right : S → ⊥). h (λ (p : P). left (first.0 p)) (λ (q : Q). right (second.0 q)),
  λ (h : (R → ⊥) → (S → ⊥) → ⊥) (left : P → ⊥) (right : Q → ⊥). h (λ (r : R). left (first.1 r)) (λ (s : S). right (second.1 s)),
)

-- a failing
pub not_at : (P Q : Type 0) → P ↔ Q → (P → ⊥) ↔ (Q → ⊥)
not_at P Q same = (λ (h : P → ⊥) (q : Q). h (same.1 q), λ (h : Q → ⊥) (p : P). h (same.0 p))

-- two numbers compared, each with another name
pub at_most_at : (v w x y : Value) → v ≡ x → w ≡ y → (number v ≤ℤ number w) ↔ (number x ≤ℤ number y)
at_most_at v w x y first second = rw (first, second) (λ (h : number x ≤ℤ number y). h, λ (h : number x ≤ℤ number y). h)

-- one number less than another, each with another name
pub less_at : (v w x y : Value) → v ≡ x → w ≡ y → (number v <ℤ number w) ↔ (number x <ℤ number y)
less_at v w x y first second = rw (first, second) (λ (h : number x <ℤ number y). h, λ (h : number x <ℤ number y). h)

-- a formula at stores holds exactly where it holds with their values at the slots
pub at_stores_means : (m : Structure) (s : Copy → SymbolicStore) (f : Assertion) → Holds m (at_stores s f) ↔ Holds (slotted m s) f
at_stores_means m s Yes = (λ (h : Unit {0}). tt, λ (h : Unit {0}). tt)
at_stores_means m s No = (λ (h : ⊥). h, λ (h : ⊥). h)
at_stores_means m s (Eq sort t u) = same_at sort _ _ _ _ (filled_means m s t) (filled_means m s u)
at_stores_means m s (Ne sort t u) = not_at _ _ (same_at sort _ _ _ _ (filled_means m s t) (filled_means m s u))
at_stores_means m s (Le t u) = at_most_at _ _ _ _ (filled_means m s t) (filled_means m s u)
at_stores_means m s (Lt t u) = less_at _ _ _ _ (filled_means m s t) (filled_means m s u)
at_stores_means m s (And p q) = both_at _ _ _ _ (at_stores_means m s p) (at_stores_means m s q)
at_stores_means m s (Or p q) = some_at _ _ _ _ (at_stores_means m s p) (at_stores_means m s q)

-- formulas at stores hold exactly where they hold with the stores' values at the slots
pub all_at_stores_mean : (m : Structure) (s : Copy → SymbolicStore) (fs : List Assertion)
    → AllHold m (all_at_stores s fs) ↔ AllHold (slotted m s) fs
all_at_stores_mean m s [] = (λ (h : Unit {0}). tt, λ (h : Unit {0}). tt)
all_at_stores_mean m s (f ∷ fs) = both_at _ _ _ _ (at_stores_means m s f) (all_at_stores_mean m s fs)
