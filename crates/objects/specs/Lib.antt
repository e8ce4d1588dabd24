pub mod Occupancy
pub mod Objects
