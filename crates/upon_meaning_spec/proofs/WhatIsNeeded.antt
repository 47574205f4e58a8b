pub mod FoundAlike
pub mod SameExpressions
pub mod SameNeeded
pub mod Templates
pub mod LessThanRead
pub mod NothingMissing
pub mod NoUnknown
