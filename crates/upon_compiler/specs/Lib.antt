pub mod After
pub mod Compiler
pub mod Events
pub mod Told
pub mod Program
pub mod Compiled
