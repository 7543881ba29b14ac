pub mod Carry
pub mod CarriedFar
pub mod HalfCheck
pub mod CarryPromises
