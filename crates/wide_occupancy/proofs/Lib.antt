pub mod TrainLaws
pub mod WideMarkLaws
pub mod Onto
pub mod WideMarkRenumbering
