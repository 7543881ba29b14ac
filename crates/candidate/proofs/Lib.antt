pub mod CandidateLaws
pub mod ActLaws
pub mod LearnsLaws
pub mod ReleaseTells
