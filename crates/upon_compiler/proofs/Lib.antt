pub mod Blocks
pub mod Examples
pub mod Jumps
pub mod Told
pub mod TreeSpans
pub mod CompiledTree
pub mod Templates
