pub mod Starts
pub mod Known
pub mod PathSpan
pub mod Searches
pub mod Tops
