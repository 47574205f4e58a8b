-- Each step of reading an expression: what is read then, with its instructions, or where the tokens go no further.
pub mod Grown
pub mod Lists
pub mod Maps
pub mod Calls
pub mod Filters
pub mod Stacks
