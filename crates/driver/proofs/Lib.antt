mod Admits
mod Balances
mod Calleds
mod Followings
mod Follows
pub mod Holds
mod Identities
pub mod Judges
mod Keeps
mod Lengthy
mod Looks
mod Marks
mod Ones
pub mod Reasons
mod Runs
mod Scripting
mod Spares
