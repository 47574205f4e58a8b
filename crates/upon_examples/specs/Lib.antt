pub mod Functions
pub mod Formatters
pub mod Callables
