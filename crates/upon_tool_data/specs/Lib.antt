pub mod Sources
pub mod Words
pub mod Environment
pub mod Files
pub mod Settings
pub mod Context
pub mod Held
pub mod Samples
