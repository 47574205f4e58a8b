pub mod EachWord
pub mod LeadingBegins
pub mod ExpressionsLead
pub mod TagsLead
pub mod WantedAt
pub mod Opened
pub mod LiteralWords
