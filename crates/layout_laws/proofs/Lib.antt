pub mod OffsetsAside
pub mod LaidBase
pub mod LaidBytes
pub mod LaidOut
pub mod LaidMatch
pub mod LaidTrain
pub mod LaidRenumbered
