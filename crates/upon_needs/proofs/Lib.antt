pub mod SetsOfNames
pub mod NeededNames
pub mod IndexStarts
pub mod OpenBlocks
pub mod Links
pub mod SearchSteps
pub mod Begun
pub mod PlacesLie
