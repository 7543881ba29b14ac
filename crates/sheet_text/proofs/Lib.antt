pub mod SheetLaws
pub mod BundleLaws
pub mod SheetRoom
pub mod SheetExample
