mod Imports
mod DeclaredLemmas
mod FormulasLemmas
mod GrowthLemmas
mod SortedNames
mod SpelledTasks
mod WithinLemmas
