pub mod Prefix
pub mod InBytes
pub mod Loop
pub mod Exact
