pub mod Addresses
pub mod Confirmed
pub mod Goes
pub mod Lengths
pub mod Outputs
pub mod Polled
pub mod Tables
pub mod Theorems
