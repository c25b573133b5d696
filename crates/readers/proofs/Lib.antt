-- Laws of the definitions in specs/, one file a subject.
pub mod Steps
pub mod Onward
pub mod Turns
