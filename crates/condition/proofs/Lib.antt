-- Laws of the walk in specs/Walk.antt, one file a subject.
pub mod Steps
pub mod Trees
pub mod Checks
pub mod Onward
pub mod Position
pub mod Lookups
