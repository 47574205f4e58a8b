pub mod Trimmed
pub mod Along
pub mod Expressions
pub mod Trees
pub mod Literals
pub mod FirstFault
