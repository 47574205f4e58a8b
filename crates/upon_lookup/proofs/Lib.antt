pub mod ValueItems
pub mod Tells
