pub mod Items
pub mod Integers
pub mod Pieces
pub mod Appending
pub mod Sums
pub mod LawLemmas
