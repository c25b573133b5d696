pub mod Script
pub mod WriteScript
