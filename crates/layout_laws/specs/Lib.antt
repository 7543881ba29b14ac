pub mod LayOutMatch
