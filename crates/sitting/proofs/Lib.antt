pub mod ReplayLaws
pub mod StepLaws
pub mod TwinReplays
