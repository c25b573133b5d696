-- Laws of the definitions in specs/.
pub mod Same
pub mod Noting
pub mod Copying
