pub mod BitLaws
pub mod SlotLaws
pub mod IndexLaws
pub mod IndexMatch
pub mod SidingIndex
pub mod ChangedLaws
pub mod CallLaws
pub mod ListLaws
