-- What a check of conditions answers. No public clause cites it.
use Rattle.std.specs.Prelude.{◌≡◌, ◌≢◌, ℕ, zero, suc, Option, Some, None, option_map, Result, MatchResult}
use Rattle.sm_syntax.specs.text.Conditions.{Section, Shared, ListOf, Refusal}
use Rattle.sm_syntax.specs.claim.ConflictFree.{O, A, B, M}
use Rattle.sm_task.specs.Errors.{error_of, TaskError, Memory}

-- the section with a number
abbrev pub section_of : ℕ → Section
section_of zero = ListOf O
section_of (suc zero) = ListOf A
section_of (suc (suc zero)) = ListOf B
section_of (suc (suc (suc zero))) = ListOf M
section_of (suc (suc (suc (suc n)))) = Shared

-- a check answers that there is no refusal, or by its error which one it is; want of memory is free
abbrev pub ReportsRefusal : Result (Unit {0}) TaskError → Option Refusal → Type 0
ReportsRefusal answer refusal =
    MatchResult answer (λ u. refusal ≡ None)
    (λ e. e ≢ Memory → option_map error_of refusal ≡ Some e)
