-- Laws of what the specs of this crate define, one file a subject.
pub mod Over
pub mod Operands
pub mod Rows
pub mod Keyed
pub mod Storing
