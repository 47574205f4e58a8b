pub mod OpenBrackets
pub mod Trims
pub mod OpenTagPlaces
pub mod OpenModes
pub mod ReadMore
pub mod Lines
pub mod Spaces
pub mod Starts
pub mod Spelling
pub mod Passing
pub mod Plain
mod Digits
mod StringPieces
