pub mod FollowsTree
pub mod Sets
pub mod FaultsLie
pub mod Midway
pub mod JumpsWithin
pub mod Walks
pub mod NamesOfExpressions
pub mod BlockCode
pub mod NamesOfTree
mod Examples
