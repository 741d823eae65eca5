pub mod Polls
pub mod Runs
pub mod Deliveries
pub mod Waits
