pub mod CopiesSorted
