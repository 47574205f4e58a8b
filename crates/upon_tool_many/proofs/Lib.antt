pub mod Rows
pub mod Keys
pub mod Paths
pub mod Places
pub mod Texts
pub mod Ends
pub mod Refused
pub mod FilesRead
