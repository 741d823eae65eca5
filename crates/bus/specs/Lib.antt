pub mod States
pub mod Acts
pub mod Breaches
pub mod Bus
pub mod Laws
pub mod Readers
