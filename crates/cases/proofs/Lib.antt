pub mod Reading
pub mod Comparing
