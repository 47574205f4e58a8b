pub mod Added
pub mod Found
pub mod HandedOn
pub mod IncludesFound
pub mod ShownTexts
pub mod Ways
