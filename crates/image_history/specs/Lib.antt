pub mod AfterLoad
pub mod UnknownHistory
