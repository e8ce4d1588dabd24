pub mod Format
pub mod Walk
pub mod Found
pub mod Steps
pub mod Writing
pub mod RoundTrip
