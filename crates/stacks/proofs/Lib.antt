pub mod Pushed
pub mod Run
