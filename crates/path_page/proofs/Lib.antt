pub mod NearestLaws
pub mod MetresLaws
pub mod PageLaws
pub mod PageMatch
pub mod PageExamples
