pub mod Run
pub mod Stacks
