-- What the program's trees and tables stand for.
pub mod Views
pub mod Programs
pub mod Copies
pub mod Faults
pub mod FirstBroken
