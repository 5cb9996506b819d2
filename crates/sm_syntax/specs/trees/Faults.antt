-- Which refusal of a task an error names. Public clauses cite it.
use Rattle.std.specs.Prelude.{◌≡◌, ◌≢◌, Option, Some, None, Result, MatchResult}
use Rattle.sm_syntax.specs.declared.error.SyntaxError.{SyntaxError}
use Rattle.sm_syntax.specs.declared.error.SyntaxError.TheVariants as error
use Rattle.sm_syntax.specs.text.Conditions as refusal
use Rattle.sm_syntax.specs.text.Conditions.{Refusal}

-- the refusal, none for want of memory
abbrev pub fault_of : SyntaxError → Option Refusal
fault_of (error.UnknownName x) = Some (refusal.UnknownName x.0)
fault_of (error.WrongSort x) = Some (refusal.WrongSort x.0)
fault_of (error.DoubleName x) = Some (refusal.DoubleName x.0)
fault_of error.TooDeep = Some refusal.TooDeep
fault_of error.TooMany = Some refusal.TooMany
fault_of error.Memory = None

-- a check answers that there is no fault, or which one it is; want of memory alone is free
abbrev pub Reports : Result (Unit {0}) SyntaxError → Option Refusal → Type 0
Reports answer fault =
    MatchResult answer (λ u. fault ≡ None) (λ e. e ≢ error.Memory → fault ≡ fault_of e)
