mod Imports
pub mod FormsLemmas
pub mod NodesLemmas
pub mod TablesLemmas
pub mod SharedLemmas
