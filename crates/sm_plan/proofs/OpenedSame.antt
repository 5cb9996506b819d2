-- What a test lets through is what was opened.
use Rattle.sm_plan.proofs.Imports.{◌≡◌, Bool, true, false, Some, same_Some, where_true}
use Rattle.sm_plan.specs.Nodes.{Opened}

-- what is let through where a test holds
pub opened_same : (b : Bool) (p q : Opened) → where_true b p ≡ Some q → p ≡ q
opened_same true p q e = same_Some p q e
opened_same false p q e = absurd cc
