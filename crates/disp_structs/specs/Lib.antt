pub mod Floats
pub mod Values
pub mod Train
pub mod Renumbered
pub mod Listed
