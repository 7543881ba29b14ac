pub mod Ascii
pub mod Columns
pub mod Text
