pub mod Conversion
pub mod WidthsAgree
