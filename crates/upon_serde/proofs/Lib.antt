pub mod Noting
pub mod Putting
pub mod Reading
pub mod Sent
pub mod Again
