pub mod Hidden
pub mod InBody
pub mod LoopUnseen
