-- Private: answers of the program beside those of a definition.
use Rattle.std.specs.Prelude.{◌≡◌, Result, Ok, Err}
use Rattle.sm_proof.specs.declared.word.Word.{Word}
pub use Rattle.sm_check.specs.declared.fault.LineFault.{LineFault}
pub use Rattle.sm_check.specs.declared.fault.LineFault.TheVariants.{Memory, Wrong}

-- two answers have one good end, as a relation has it, or one word; want of memory tells nothing
abbrev pub Tells : {S T : Type 0} → (S → T → Type 0) → Result S LineFault → Result T Word → Type 0
Tells P (Ok s) (Ok t) = P s t
Tells P (Ok s) (Err w) = ⊥
Tells P (Err Memory) r = Unit {0}
Tells P (Err (Wrong w)) (Ok t) = ⊥
Tells P (Err (Wrong w)) (Err v) = w ≡ v
