-- Laws of script bytes, one file a subject.
pub mod Table
pub mod Numbers
pub mod Pushes
pub mod Lists
pub mod Size
pub mod Examples
