pub mod PartsLemmas
pub mod SumLemmas
