pub mod PathLaws
pub mod SplitLaws
pub mod DivideLaws
pub mod StrayLaws
