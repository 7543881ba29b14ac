pub mod Profile
pub mod ExactSteps
