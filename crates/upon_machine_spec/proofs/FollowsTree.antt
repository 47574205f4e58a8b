pub mod Comes
pub mod Places
pub mod Operands
pub mod Expressions
pub mod Statements
pub mod Templates
pub mod Once
