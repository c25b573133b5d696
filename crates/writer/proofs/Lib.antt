-- Laws of what Write answers, one file a subject.
pub mod Answers
