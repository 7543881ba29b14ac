pub mod Metres
pub mod Page
