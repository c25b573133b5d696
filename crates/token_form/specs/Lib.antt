pub mod Fields
pub mod Storing
