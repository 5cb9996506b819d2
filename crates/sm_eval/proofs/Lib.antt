mod Imports
pub mod Integers
pub mod Listed
pub mod Ordered
pub mod Rooms
pub mod Writes
pub mod Declaring
pub mod Numbers
pub mod Turns
pub mod Ends
pub mod Faultless
