-- Laws of the definitions in specs/.
mod Nine
