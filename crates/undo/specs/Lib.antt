pub mod Undo
pub mod UndoCalls
pub mod DemandThreeUndo
