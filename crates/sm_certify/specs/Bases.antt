-- Cited by public clauses: where the classes of the branches of a walk begin.
use Rattle.sm_cc.specs.BaseClasses.{AreBaseClasses}
use Rattle.sm_cc.specs.Views.{ClassesValue}
use Rattle.sm_certify.specs.declared.base.Base.{Base}
use Rattle.sm_certify.specs.declared.base.Base.TheVariants as base

-- a base is the classes of terms by all that is given of them, or nothing
abbrev pub IsFrom : ClassesValue → Base → Type 0
IsFrom v base.Nothing = Unit {0}
IsFrom v (base.Over g) = AreBaseClasses v g.value.ground g.value.numbering
