-- Well-sorted expressions have numbers.
use Rattle.sm_eval.proofs.Imports.{◌≡◌, Some, refl, value_of, IsWellSortedExpression, Num, number, Expression, Lit, Var, Read, Neg, Plus, Minus, Times, held, sort, stored_value_of, StoredValue, Absent, Array}
use Rattle.sm_syntax.specs.claim.Stores as plain
use Rattle.sm_eval.specs.declared.store.Store.{Store}
use Rattle.sm_eval.specs.StoredValues.{meaning, sorts_of, Number}

-- what is stored for a number variable is a number
held_number : (value : StoredValue) → sort value ≡ Some Num → held value ≡ plain.Number (number (held value))
held_number Absent sorted = refl
held_number (Number z) sorted = refl
held_number (Array cells) sorted = cc

-- a well-sorted expression has a number
pub sorted_number : (s : Store) (e : Expression) → IsWellSortedExpression (sorts_of s) e
    → value_of e (meaning s) ≡ plain.Number (number (value_of e (meaning s)))
unfolding meaning sorts_of
sorted_number s (Lit z) sorted = refl
sorted_number s (Var x) sorted = held_number (stored_value_of s.stored.items x) sorted
sorted_number s (Read a i) sorted = refl
sorted_number s (Neg e) sorted = refl
sorted_number s (Plus d e) sorted = refl
sorted_number s (Minus d e) sorted = refl
sorted_number s (Times d e) sorted = refl
