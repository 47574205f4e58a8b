pub mod Cut
pub mod Run
pub mod Delimiter
pub mod Raw
pub mod Quoted
pub mod Inside
pub mod Token
