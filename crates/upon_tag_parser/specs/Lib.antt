pub mod Wants
pub mod TagTokens
pub mod TagParsing
pub mod Shown
pub mod PartReadings
pub mod Brackets
pub mod BlockTags
pub mod WholeTags
