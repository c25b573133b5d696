-- Laws of the pass in specs/Marks.antt, one file a subject.
pub mod Narrow
pub mod Waiting
pub mod Pass
pub mod Unmarked
pub mod Arrays
