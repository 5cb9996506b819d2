pub mod Counting
pub mod Solving
pub mod Rules
pub mod Equalities
pub mod Inequalities
pub mod Exact
pub mod ExactLaws
