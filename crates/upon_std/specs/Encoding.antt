-- The functions of `encoding`: what they answer of their arguments, and their names.
pub mod Columns
pub mod Padding
pub mod Truncating
pub mod Url
pub mod Tokens
pub mod JsonText
pub mod JsonParts
pub mod Held
pub mod Outcomes
pub mod Writing
