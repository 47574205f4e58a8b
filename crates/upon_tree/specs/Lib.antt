pub mod AstExpression
pub mod Ast
pub mod Weight
pub mod StatementWeight
pub mod Opened
pub mod Statements
