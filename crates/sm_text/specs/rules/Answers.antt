-- No public clause cites this file.
-- What the code of a rule answers, by the reading that it follows.
use Rattle.std.specs.Prelude.{◌≡◌, Result, Ok, Err, List}
use Rattle.std.specs.Borrow.{Bor}
use Rattle.sm_syntax.specs.declared.symbol.Symbol.{Symbol}
use Rattle.sm_text.specs.declared.rules.reading.Fault.{Fault}
use Rattle.sm_text.specs.declared.rules.reading.ReadError.{ReadError}
use Rattle.sm_text.specs.declared.rules.reading.ReadError.TheVariants as error

-- the error is the fault that the reading gives, or want of memory
abbrev pub Fails : {B : Type 0} → ReadError → Result B Fault → Type 0
Fails (error.Fault f) reading = reading ≡ Err f
Fails error.Memory reading = Unit {0}

-- the answer is what the reading gives, but for want of memory
abbrev pub Gives : {A B : Type 0} → (A → B) → Result A ReadError → Result B Fault → Type 0
Gives view (Ok x) reading = reading ≡ Ok (view x)
Gives view (Err e) reading = Fails e reading

-- the answer stands for what the reading gives, with the symbols after it
abbrev pub Parses : {A B : Type 0} → (A → B) → Result (A × Bor (List Symbol)) ReadError →
    Result (B × List Symbol) Fault → Type 0
Parses view result reading = Gives (λ x. (view x.0, x.1.now)) result reading
