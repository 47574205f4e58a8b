pub mod TagsKept
pub mod BlocksKept
pub mod TreeKept
pub mod FaultKept
pub mod MeaningKept
pub mod RenderingKept
