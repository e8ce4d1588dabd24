pub mod Manifests
pub mod Search
pub mod Reach
