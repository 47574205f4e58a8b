-- The functions of `cutting`: what they answer of their arguments, and their names.
pub mod Items
pub mod Numbers
pub mod Pieces
pub mod Outcomes
pub mod Parts
