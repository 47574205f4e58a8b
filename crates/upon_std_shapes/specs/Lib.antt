pub mod Items
pub mod Signatures
pub mod Forms
pub mod Tables
