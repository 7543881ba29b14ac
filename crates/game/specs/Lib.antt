pub mod Game
pub mod Sets
