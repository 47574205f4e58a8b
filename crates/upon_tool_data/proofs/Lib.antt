pub mod Parts
pub mod FileSteps
pub mod SampleSteps
pub mod SettingSteps
pub mod ContextSteps
