pub mod CheckedFiles
pub mod Refusals
pub mod Refused
pub mod Sent
pub mod Statuses
pub mod Ending
pub mod FolderReads
