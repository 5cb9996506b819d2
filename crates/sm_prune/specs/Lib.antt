pub mod LineNumbers
pub mod Texts
pub mod UsedLines
pub mod LeftLines
pub mod Laws
pub mod Marks
pub mod Numbers
