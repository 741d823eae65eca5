pub mod Errors
pub mod Hexes
pub mod Lines
pub mod Logs
