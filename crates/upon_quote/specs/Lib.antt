pub mod Hex
pub mod Quoted
pub mod Reading
pub mod Json
pub mod Yaml
pub mod Shell
pub mod Escape
pub mod Tokens
