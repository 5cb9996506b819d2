mod Imports
pub mod AddingLemmas
pub mod BranchLeadsLemmas
pub mod ByLabelsLemmas
pub mod CertifyLemmas
pub mod ContrariesLemmas
pub mod DecidedLemmas
pub mod EquationLemmas
pub mod ExplainedTermsLemmas
pub mod GivenLemmas
pub mod LeadsLemmas
pub mod MarkedLemmas
pub mod NamingLemmas
pub mod OrderLemmas
pub mod RefutingLemmas
pub mod SameLemmas
pub mod SourcesLemmas
pub mod WrittenLemmas
