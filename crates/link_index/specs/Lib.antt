pub mod Bits
pub mod LinkIndex
pub mod Slots
pub mod StaysRight
pub mod Indexed
pub mod IndexCalls
