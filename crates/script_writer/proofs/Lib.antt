-- Laws of the bytes that are written, one file a subject.
pub mod Pieces
pub mod Commands
pub mod Answers
pub mod Own
