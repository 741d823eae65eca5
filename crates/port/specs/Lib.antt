pub mod Meanings
pub mod Sends
pub mod Tapes
