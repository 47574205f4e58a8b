pub mod CaseTables
pub mod Characters
pub mod LowerLemmas
pub mod UpperLemmas
pub mod EncodingLemmas
pub mod OrderingLemmas
pub mod CuttingLemmas
pub mod BasicLemmas
