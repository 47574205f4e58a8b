pub mod ShapeViews
pub mod KeysAhead
pub mod Steps
pub mod Samples
pub mod MoreSteps
pub mod Walks
