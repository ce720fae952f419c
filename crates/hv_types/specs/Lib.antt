-- what the functions inside promise each other
pub mod Walked
pub mod Depths
pub mod Table
pub mod Rounds
pub mod Counts
pub mod Holders
pub mod Structs
