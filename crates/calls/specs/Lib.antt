pub mod Table
pub mod Slips
pub mod Deeds
pub mod Afters
pub mod Told
