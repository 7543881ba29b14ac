pub mod Octets
pub mod LinkIdx
pub mod Network
pub mod Refusals
pub mod AdvanceRewind
pub mod Renumbering
pub mod Matching
