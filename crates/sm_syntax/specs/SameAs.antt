-- Cited by public clauses of other crates: values that are the same as what has a sort.
use Rattle.std.specs.Prelude.{◌≡◌, ℤ}
use Rattle.sm_syntax.specs.declared.tree.Sort.{Sort}
use Rattle.sm_syntax.specs.declared.tree.Sort.TheVariants.{Num, Arr}
use Rattle.sm_syntax.specs.claim.Stores.{Value, number, array}

-- two values are the same as numbers, or as arrays at each index
abbrev pub SameAs : Sort → Value → Value → Type 0
SameAs Num v w = number v ≡ number w
SameAs Arr v w = (i : ℤ) → array v i ≡ array w i
