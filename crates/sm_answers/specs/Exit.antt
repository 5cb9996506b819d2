-- Why a command ends early. Public clauses cite it.
use Rattle.std.specs.Prelude.{ℕ, List}
pub use Rattle.sm_answers.specs.declared.exit.Exit.{Exit}
use Rattle.sm_answers.specs.declared.exit.Exit.TheVariants.{Answer, Memory}
use Rattle.sm_answers.specs.declared.status.Status.{Status}

-- an answer that is known is one of those that may be given; of want of memory nothing is said
abbrev pub ExitsWith : (Status → List ℕ → Type 0) → Exit → Type 0
ExitsWith Gives (Answer r) = Gives r.status r.text.items
ExitsWith Gives Memory = Unit {0}
