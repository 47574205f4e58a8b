pub mod Lookups
pub mod Expressions
pub mod Emissions
pub mod Templates
