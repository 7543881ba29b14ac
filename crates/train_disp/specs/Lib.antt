pub mod TrainDisp
pub mod CodeFacts
