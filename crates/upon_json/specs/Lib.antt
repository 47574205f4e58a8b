pub mod Value
pub mod Reads
pub mod Context
