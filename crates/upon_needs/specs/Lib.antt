pub mod Names
pub mod IndexStarts
pub mod OpenBlocks
pub mod Unseen
pub mod EngineNeeds
pub mod Places
