pub mod Data
pub mod Notes
pub mod Reads
pub mod Put
pub mod Refusal
pub mod Again
