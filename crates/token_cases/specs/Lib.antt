pub mod Decoding
pub mod ScriptWriting
pub mod Writing
