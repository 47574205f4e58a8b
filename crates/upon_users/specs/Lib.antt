pub mod Greeting
pub mod OnValue
pub mod Page
pub mod Pages
