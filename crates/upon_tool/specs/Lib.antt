pub mod Names
pub mod Filled
pub mod Work
pub mod Checked
pub mod Fitting
pub mod Calls
pub mod ByTable
