pub mod Shapes
pub mod Templates
pub mod Includes
pub mod Doubts
