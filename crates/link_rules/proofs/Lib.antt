pub mod OctetLaws
pub mod RefusalLaws
pub mod RangeLaws
pub mod TableLaws
pub mod MarkLaws
pub mod RenumberingLaws
pub mod MarkRenumbering
