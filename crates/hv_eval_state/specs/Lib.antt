pub mod Gives
pub mod Spots
pub mod Opened
