-- Private: what a line names that isn't there.
use Rattle.std.specs.Prelude.{◌≡◌, Option, None}
use Rattle.sm_proof.specs.declared.word.Word.TheVariants.{BadNumber}
use Rattle.sm_check.specs.declared.fault.LineFault.{LineFault}
use Rattle.sm_check.specs.declared.fault.LineFault.TheVariants.{Wrong, Memory}

-- something that is named isn't there; want of memory tells nothing
abbrev pub Misses : {T : Type 0} → LineFault → Option T → Type 0
Misses Memory o = Unit {0}
Misses (Wrong w) o = (w ≡ BadNumber) × (o ≡ None)
