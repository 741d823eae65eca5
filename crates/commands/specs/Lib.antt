pub mod Polls
pub mod Sequences
pub mod Sent
