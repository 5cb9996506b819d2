pub mod Headline
pub mod HeadlineRead
pub mod Readings
pub mod Top
pub mod Laws
pub mod Deeper
pub mod Why
