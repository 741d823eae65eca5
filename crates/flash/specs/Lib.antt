pub mod Parts
pub mod Addresses
pub mod Opcodes
pub mod Statuses
pub mod Records
pub mod Faults
