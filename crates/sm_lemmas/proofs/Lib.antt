pub mod Lists
pub mod Tests
pub mod Numbers
pub mod Options
