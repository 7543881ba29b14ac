pub mod Counting
pub mod FirstAt
pub mod WalkLaws
pub mod CycleLaws
pub mod Search
pub mod Ranked
pub mod Depth
pub mod Examples
