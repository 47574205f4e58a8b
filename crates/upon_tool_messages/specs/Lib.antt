pub mod Status
pub mod Library
pub mod Colors
pub mod Gone
pub mod Terminal
pub mod Judged
pub mod Included
