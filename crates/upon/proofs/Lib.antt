pub mod HandedOn
pub mod Shown
pub mod Ended
pub mod Boxed
pub mod Renderings
pub mod TemplateSpans
pub mod RenderingLaws
