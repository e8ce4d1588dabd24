pub mod Rounding
pub mod NoRate
pub mod Onward
pub mod Progress
pub mod Locals
pub mod Structs
pub mod Values
