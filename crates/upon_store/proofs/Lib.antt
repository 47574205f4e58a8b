pub mod Segments
pub mod Steps
pub mod Leads
pub mod Changes
pub mod Rising
pub mod HandingOn
