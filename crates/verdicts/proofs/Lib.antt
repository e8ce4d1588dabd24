pub mod Tables
pub mod Replies
pub mod RoundTrip
