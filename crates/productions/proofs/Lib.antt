-- Laws of the definitions in specs/, one file a subject.
pub mod Tokens
pub mod Endings
pub mod Shapes
pub mod Table
pub mod Places
pub mod Noted
