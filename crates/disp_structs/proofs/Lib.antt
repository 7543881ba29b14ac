pub mod ListedLaws
pub mod FloatLaws
