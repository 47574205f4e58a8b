pub mod Integers
pub mod Outcome
pub mod Says
pub mod Blames
pub mod Adapters
