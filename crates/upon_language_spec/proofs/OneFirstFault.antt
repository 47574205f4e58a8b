pub mod FirstFault
pub mod Fault
pub mod LaterFault
pub mod CutFault
