-- Which text spells a task.
pub mod Tokens
pub mod Symbols
pub mod Parts
pub mod MarkedSymbols
pub mod ExpressionGrammar
pub mod ConditionGrammar
pub mod StatementGrammar
pub mod TaskGrammar
pub mod Uses
pub mod Sorts
pub mod Conditions
pub mod Spells
