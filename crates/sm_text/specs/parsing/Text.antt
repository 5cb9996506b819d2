-- Public clauses cite this file.
-- Which fault an error names, and when an answer is the task of its text.
use Rattle.std.specs.Prelude.{◌≡◌, ℕ, Option, Some, None, Result, MatchResult}
use Rattle.sm_syntax.specs.declared.token.LexFault.{LexFault}
use Rattle.sm_syntax.specs.declared.token.LexKind.TheVariants as kind
use Rattle.sm_syntax.specs.text.Parts.{Parts}
use Rattle.sm_text.specs.declared.error.TextError.{TextError}
use Rattle.sm_text.specs.declared.error.TextError.TheVariants as error
use Rattle.sm_text.specs.declared.rules.reading.FaultKind.{FaultKind}
use Rattle.sm_text.specs.declared.rules.reading.FaultKind.TheVariants.{Expected, Nested}
use Rattle.sm_text.specs.Tasks.{parts_of, Task}

-- the lexical fault that an error names, if it names one
abbrev pub lexical_fault : TextError → Option LexFault
lexical_fault (error.BadByte place) = Some (record { kind = kind.BadByte; place = place })
lexical_fault (error.WideNumber place) = Some (record { kind = kind.WideNumber; place = place })
lexical_fault (error.BadToken place) = Some (record { kind = kind.BadToken; place = place })
lexical_fault (error.Expected place) = None
lexical_fault (error.Nested place) = None
lexical_fault error.Memory = None

-- the answer is the task of these parts, or want of memory
abbrev pub IsTaskReadAs : Parts → Result Task TextError → Type 0
IsTaskReadAs t answer = MatchResult answer (λ p. parts_of p ≡ t) (λ e. e ≡ error.Memory)

-- the error of a rule that doesn't go on at a place
abbrev pub rule_fault : FaultKind → ℕ → TextError
rule_fault Expected place = error.Expected place
rule_fault Nested place = error.Nested place
