pub mod Cursor
pub mod LoopItems
pub mod Loop
pub mod Frames
pub mod Roots
pub mod Stack
