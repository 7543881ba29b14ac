pub mod Fields
pub mod Image
pub mod Codec
pub mod ImageMatch
