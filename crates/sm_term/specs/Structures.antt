-- Cited by public clauses: what terms mean. A structure gives each symbol a value, and all
-- summaries one bound on turns.
use Rattle.std.specs.Prelude.{ℕ, ◌==◌, if◌then◌else◌, Option, Some, None, ℤ, ◌+ℤ◌, ◌-ℤ◌, ◌*ℤ◌, neg_ℤ}
use Rattle.sm_syntax.specs.claim.Stores.{Value, Number, Array, number, array, zero_value, Store, put, with_element}
use Rattle.sm_syntax.specs.claim.Meaning.{run}
use Rattle.sm_syntax.specs.claim.ConflictFree.{Copy}
use Rattle.sm_term.specs.Terms.{Tree, Lit, Start, Havoc, Slot, Cell, Read, Write, Neg, Add, Sub, Mul, Fun, Arguments, Over, Given}

-- a bound on turns, a value for each symbol, and the index of the cell
pub record Structure : Type 0 where
  pub bound : ℕ
  pub start : Store
  pub havoc : ℕ → Copy → Store
  pub slot : Copy → Store
  pub cell : ℤ

-- the value of a name at an end, 0 where there is none
abbrev pub value_at : Option Store → ℕ → Value
value_at None x = zero_value
value_at (Some s) x = s x

abbrev mutual
  -- the value of a term
  pub meaning : Structure → Tree → Value
  meaning m (Lit z) = Number z
  meaning m (Start x) = m.start x
  meaning m (Havoc k c x) = m.havoc k c x
  meaning m (Slot c x) = m.slot c x
  meaning m Cell = Number m.cell
  meaning m (Read a i) = Number (array (meaning m a) (number (meaning m i)))
  meaning m (Write a i e) =
      Array (with_element (array (meaning m a)) (number (meaning m i)) (number (meaning m e)))
  meaning m (Neg t) = Number (neg_ℤ (number (meaning m t)))
  meaning m (Add t u) = Number (number (meaning m t) +ℤ number (meaning m u))
  meaning m (Sub t u) = Number (number (meaning m t) -ℤ number (meaning m u))
  meaning m (Mul t u) = Number (number (meaning m t) *ℤ number (meaning m u))
  meaning m (Fun c x args) = value_at (run m.bound c (store_given m args)) x

  -- the store that has the arguments at their names, and 0 at each other name
  pub store_given : Structure → Arguments → Store
  store_given m Over = λ (x : ℕ). zero_value
  store_given m (Given x t rest) = put (store_given m rest) x (meaning m t)

-- other values at the places of copies' values
abbrev pub with_slots : Structure → (Copy → Store) → Structure
with_slots m slots = record m { slot = slots }

-- other new values of one node of a plan
abbrev pub with_havoc : Structure → ℕ → (Copy → Store) → Structure
with_havoc m k new =
    record m { havoc = λ (j : ℕ) (c : Copy). if j == k then new c else m.havoc j c }
