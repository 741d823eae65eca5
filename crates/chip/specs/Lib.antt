pub mod Cells
pub mod Chips
pub mod States
pub mod Models
pub mod Waits
pub mod Recalls
pub mod Kept
pub mod Remembers
