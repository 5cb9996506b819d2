-- Which fault of its text, or which condition, an error of a task names. Public clauses cite it.
use Rattle.std.specs.Prelude.{◌≡◌, ◌≢◌, ◌⊎◌, ℕ, Some, Result, MatchResult, List}
use Rattle.sm_syntax.specs.declared.error.SyntaxError.{SyntaxError}
use Rattle.sm_syntax.specs.declared.error.SyntaxError.TheVariants as fault
use Rattle.sm_syntax.specs.trees.Copies.{number_of}
use Rattle.sm_syntax.specs.text.Conditions as refusal
use Rattle.sm_syntax.specs.text.Conditions.{Section, Shared, ListOf, Refusal, first_refusal}
use Rattle.sm_syntax.specs.text.Parts.{Parts}
use Rattle.sm_syntax.specs.text.Spells.{IsInGrammar}
use Rattle.sm_text.specs.declared.error.TextError.TheVariants as text
use Rattle.sm_text.specs.parsing.Places.{AreTasks, IsFirstFault}
use Rattle.sm_text.specs.declared.error.TextError.{TextError}
use Rattle.sm_text.specs.parsing.Places.Sources.{whole_text}
pub use Rattle.sm_task.specs.declared.error.TaskError.{TaskError}
use Rattle.sm_task.specs.declared.error.TaskError.TheVariants as error
use Rattle.sm_text.specs.Tasks.{parts_of}
use Rattle.sm_text.specs.declared.task.Task.{Task}
pub use Rattle.sm_task.specs.declared.error.TaskError.TheVariants.{Memory}

-- the number of a section: a list has its copy's, and 4 alone is the shared program
abbrev pub section_number : Section → ℕ
section_number Shared = 4
section_number (ListOf c) = number_of c

-- the error for a condition that fails
abbrev pub error_of : Refusal → TaskError
error_of (refusal.DoubleHole section hole) = error.DoubleHole (section_number section) hole
error_of (refusal.HoleInFilling section hole) = error.HoleInFilling (section_number section) hole
error_of (refusal.UnknownHole section hole) = error.UnknownHole (section_number section) hole
error_of (refusal.MissingFilling section hole) = error.MissingFilling (section_number section) hole
error_of (refusal.DoubleName x) = error.DoubleName (record { 0 = x })
error_of (refusal.UnknownName x) = error.UnknownName (record { 0 = x })
error_of (refusal.WrongSort x) = error.WrongSort (record { 0 = x })
error_of refusal.TooMany = error.TooMany
error_of refusal.TooDeep = error.TooDeep

-- the error for an error of the text
abbrev pub from_text : TextError → TaskError
from_text (text.BadByte place) = error.BadByte place
from_text (text.WideNumber place) = error.WideNumber place
from_text (text.BadToken place) = error.BadToken place
from_text (text.Expected place) = error.Expected place
from_text (text.Nested place) = error.Nested place
from_text text.Memory = error.Memory

-- the error for a fault of a program
abbrev pub from_syntax : SyntaxError → TaskError
from_syntax (fault.UnknownName x) = error.UnknownName x
from_syntax (fault.WrongSort x) = error.WrongSort x
from_syntax (fault.DoubleName x) = error.DoubleName x
from_syntax fault.TooDeep = error.TooDeep
from_syntax fault.TooMany = error.TooMany
from_syntax fault.Memory = error.Memory

-- the text is in the grammar, and of the conditions on tasks this is the first that fails
abbrev pub IsRefusedBy : List ℕ → Refusal → Type 0
IsRefusedBy bytes r = (t : Parts) × IsInGrammar bytes t × (first_refusal t ≡ Some r)

-- the error names the first fault of the text, or the first condition that fails
abbrev pub IsRefusedWith : List ℕ → TaskError → Type 0
IsRefusedWith bytes e =
    ((x : TextError) × IsFirstFault AreTasks (whole_text bytes) x × (e ≡ from_text x))
    ⊎ ((r : Refusal) × IsRefusedBy bytes r × (e ≡ error_of r))

-- the answer is the task of these parts, or want of memory
abbrev pub IsReadAs : Parts → Result Task TaskError → Type 0
IsReadAs t answer = MatchResult answer (λ p. parts_of p ≡ t) (λ e. e ≡ error.Memory)

-- the answer is the error for this refusal, or want of memory
abbrev pub IsRefusedAs : Refusal → Result Task TaskError → Type 0
IsRefusedAs r answer = MatchResult answer (λ p. ⊥) (λ e. e ≢ error.Memory → e ≡ error_of r)
