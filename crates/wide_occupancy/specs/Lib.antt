pub mod WideOccupancy
