pub mod Powers
pub mod Parts
pub mod Items
pub mod LawLemmas
pub mod Joining
