pub mod Fault
pub mod Table
pub mod Lines
pub mod Document
pub mod Format
pub mod Entries
pub mod Parts
pub mod AtPath
