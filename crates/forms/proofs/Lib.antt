-- The tokens of commands, one file a subject.
pub mod OfTree
pub mod Emitting
