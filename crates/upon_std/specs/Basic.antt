-- The functions of `basic`: what they answer of their arguments, and their names.
pub mod Held
pub mod Order
pub mod Choices
pub mod Comparing
pub mod Decimal
pub mod Integers
pub mod Parts
pub mod Texts
pub mod Items
pub mod Lists
pub mod Names
pub mod Table
pub mod Joined
