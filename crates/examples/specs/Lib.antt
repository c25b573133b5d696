pub mod Const
