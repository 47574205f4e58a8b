pub mod View
pub mod Keys
pub mod Found
