pub mod Sheets
pub mod RoundTrip
