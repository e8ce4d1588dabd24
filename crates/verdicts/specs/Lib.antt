pub mod Verdicts
pub mod RoundTrip
