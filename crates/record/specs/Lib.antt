pub mod Changes
pub mod Judgements
pub mod Picks
