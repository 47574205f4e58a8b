-- What the standard functions answer, and their names.
pub mod Basic
pub mod Ordering
pub mod Cutting
pub mod Encoding
pub mod Table
