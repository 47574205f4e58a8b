pub mod Nearest
pub mod Said
