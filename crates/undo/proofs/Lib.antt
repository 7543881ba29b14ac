pub mod RecordLaws
pub mod TestLaws
pub mod UndoLaws
pub mod SlotSums
pub mod YardParts
pub mod DemandThreeUndo
pub mod SidingUndone
