mod Acts
mod Blocks
mod Counts
mod Fills
mod Moves
mod Sounds
mod Steps
mod Turns
