pub mod Candidate
pub mod Learns
