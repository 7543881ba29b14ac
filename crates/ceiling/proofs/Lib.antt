pub mod LinkLaws
pub mod CeilingLaws
pub mod StepLaws
