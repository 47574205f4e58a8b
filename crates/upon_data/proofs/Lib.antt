pub mod CsvRecords
pub mod Documents
pub mod Endings
pub mod LineValues
pub mod Records
pub mod Rows
pub mod Paths
