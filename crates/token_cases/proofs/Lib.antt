-- Laws of the definitions in specs/.
pub mod Decoding
pub mod ScriptWriting
pub mod Writing
