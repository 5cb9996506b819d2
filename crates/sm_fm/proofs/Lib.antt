mod Imports
pub mod CoefficientLemmas
pub mod CrossedLemmas
pub mod FirstLemmas
pub mod JumpLemmas
pub mod KnowingLemmas
pub mod PlaceLemmas
pub mod StandingLemmas
pub mod StateLemmas
pub mod StepLemmas
pub mod ElimExamples
pub mod MembershipLemmas
pub mod BoundLemmas
pub mod ValueLemmas
pub mod BackSubstitution
pub mod SummedLemmas
pub mod QuietSolved
pub mod WithLemmas
