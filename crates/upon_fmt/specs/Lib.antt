pub mod Error
pub mod Formatter
pub mod Given
pub mod Mark
pub mod Writer
