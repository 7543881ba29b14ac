pub mod DecimalLaws
pub mod ColumnLaws
pub mod TextLaws
