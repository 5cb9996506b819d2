pub mod Drawing
pub mod Generating
