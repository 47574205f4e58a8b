pub mod Characters
pub mod Offsets
pub mod Token
pub mod Cut
