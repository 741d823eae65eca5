pub mod Events
pub mod Tellers
