pub mod Names
pub mod Values
pub mod Pages
pub mod Each
pub mod Build
