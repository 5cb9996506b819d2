-- What holds where a condition on tasks refuses nothing.
use Rattle.sm_syntax.proofs.Imports.{◌≡◌, Option, Some, None, refl, ℕ, Bool, unwrap_or, option_or, Refusal, sort_refusal, first_of_lists, output_refusal}
use Rattle.sm_syntax.specs.declared.tree.Sort.{Sort}
use Rattle.sm_syntax.specs.declared.tree.Sort.TheVariants.{Num, Arr}
use Rattle.sm_syntax.specs.claim.ConflictFree.{Copy, O, A, B, M}

-- no fault of two is neither
pub neither_refuses : (a b : Option Refusal) → option_or a b ≡ None → (a ≡ None) × (b ≡ None)
neither_refuses None b none = (refl, none)
neither_refuses (Some r) b none = cc

-- a sort that isn't refused
pub declared_sort : (o : Option Sort) (sort : Sort) (x : ℕ) → sort_refusal o sort x ≡ None → o ≡ Some sort
declared_sort None sort x none = cc
declared_sort (Some Num) Num x none = refl
declared_sort (Some Num) Arr x none = cc
declared_sort (Some Arr) Num x none = cc
declared_sort (Some Arr) Arr x none = refl

-- where each of the four copies has no fault, there is none
pub none_of_lists : (f : Copy → Option Refusal) → ((c : Copy) → f c ≡ None) → first_of_lists f ≡ None
none_of_lists f none = rw (none O, none A, none B, none M)

-- what is declared has a sort
pub has_sort : (o : Option Sort) (stood : Bool) (x : ℕ) → output_refusal o stood x ≡ None → o ≡ Some (unwrap_or o Num)
has_sort None stood x none = cc
has_sort (Some sort) stood x none = refl

-- no fault of the four copies is none of each
pub each_none : (f : Copy → Option Refusal) → first_of_lists f ≡ None → (c : Copy) → f c ≡ None
each_none f none O = (neither_refuses (f O) _ none).0
each_none f none A = (neither_refuses (f A) _ (neither_refuses (f O) _ none).1).0
each_none f none B = (neither_refuses (f B) _ (neither_refuses (f A) _ (neither_refuses (f O) _ none).1).1).0
each_none f none M = (neither_refuses (f M) _ (neither_refuses (f B) _ (neither_refuses (f A) _ (neither_refuses (f O) _ none).1).1).1).0
