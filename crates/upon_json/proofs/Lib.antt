pub mod Examples
pub mod Numbers
pub mod Reading
pub mod Rising
pub mod SetOver
