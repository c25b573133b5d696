-- Laws of the definitions in specs/, one file a subject.
pub mod Scans
pub mod Call
