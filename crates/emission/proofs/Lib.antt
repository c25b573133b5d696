-- Laws of the definitions in specs/, one file a subject.
pub mod Parts
pub mod Trees
pub mod Rules
pub mod Buffer
pub mod Mets
pub mod Emits
