pub mod Elimination
pub mod Firsts
pub mod Known
pub mod KnownLaws
pub mod Places
pub mod Solutions
pub mod States
pub mod Taking
