mod Imports
pub mod Filled
pub mod Numbers
pub mod Refusals
pub mod Parsing
pub mod RefusalUnique
