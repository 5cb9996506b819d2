-- The terms of a checker that took no line are over the names of its subject.
use Rattle.std.proofs.Common.{◌≡◌, Option, Result, Ok, subst}
use Rattle.std.specs.Prelude.{IfOk, IfSome}
use Rattle.std.specs.declared.alloc.AllocError.{AllocError}
use Rattle.sm_syntax.specs.text.Sorts.{Sorts}
use Rattle.sm_term.specs.Tables.{sorts_in}
use Rattle.sm_check.specs.declared.checker.Checker.{Checker}
use Rattle.sm_check.specs.Checkers.{IsAt, sorts_known}
use Rattle.sm_load.specs.declared.loading.Loaded.{Loaded}
use Rattle.sm_proof.specs.Verdicts.{Subject, Unopened}

pub sorts_at_start : (c : Checker) (s : Subject) → IsAt c s (Ok Unopened) → sorts_known c ≡ s.sorts
unfolding IsAt
sorts_at_start c s at = at.1.sorts

-- what is loaded over some names is over those that are the same
pub loaded_over : {a b : Sorts} (r : Result (Option Loaded) AllocError) → a ≡ b → IfOk r (λ o. IfSome o (λ (l : Loaded). sorts_in l.table ≡ a)) →
    IfOk r (λ o. IfSome o (λ (l : Loaded). sorts_in l.table ≡ b))
loaded_over r same over = subst (λ (s : Sorts). IfOk r (λ o. IfSome o (λ (l : Loaded). sorts_in l.table ≡ s))) same over
