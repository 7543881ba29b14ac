pub mod ImageFault
pub mod AllFit
pub mod CodeFacts
