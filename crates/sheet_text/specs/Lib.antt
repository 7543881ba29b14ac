pub mod Sheet
pub mod Sheets
