pub mod Charge
pub mod Look
pub mod Sale
pub mod Card
pub mod NoRate
pub mod Onward
