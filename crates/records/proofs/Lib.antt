-- Laws of what the specs of this crate define, one file a subject.
pub mod Onto
pub mod Stored
pub mod Alike
