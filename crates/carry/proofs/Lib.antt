pub mod LayoutLaws
pub mod CarryLaws
pub mod HalfLaws
pub mod HalfKeeps
pub mod StepsCarry
pub mod HalfAgrees
