mod Rooms
mod Tapes
