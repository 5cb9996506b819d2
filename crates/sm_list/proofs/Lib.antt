mod Imports
pub mod BuiltLemmas
pub mod NamedTermsLemmas
pub mod OwnLemmas
pub mod PartsLemmas
pub mod ReadsLemmas
pub mod RenumberLemmas
pub mod RenumberTermLemmas
pub mod RenumberTreeLemmas
pub mod SharedLemmas
