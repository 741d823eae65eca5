mod Backs
mod Readings
