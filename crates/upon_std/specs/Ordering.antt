-- The functions of `ordering`: what they answer of their arguments, and their names.
pub mod Keys
pub mod Rows
pub mod Sorting
pub mod Ranks
pub mod Distinct
pub mod Places
pub mod Grouping
pub mod Groups
pub mod Spelling
pub mod PartSpelling
pub mod Outcomes
pub mod Orders
