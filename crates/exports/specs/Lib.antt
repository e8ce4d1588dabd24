pub mod Names
pub mod Codec
pub mod Ledgers
pub mod Runs
