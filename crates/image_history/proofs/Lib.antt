pub mod Fitting
pub mod AfterLoad
pub mod UnknownHistory
