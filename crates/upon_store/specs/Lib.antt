pub mod Paths
pub mod Stored
