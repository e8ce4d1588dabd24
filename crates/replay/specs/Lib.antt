pub mod Front
pub mod Replay
pub mod Counts
pub mod Commit
pub mod Demand3
pub mod Struck
