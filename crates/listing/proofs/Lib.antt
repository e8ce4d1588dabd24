pub mod Bytes
pub mod Cutting
pub mod Order
pub mod Rising
pub mod Telling
pub mod Whole
