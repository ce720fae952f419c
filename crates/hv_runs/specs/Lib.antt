-- what the functions inside promise each other
pub mod Walked
pub mod Parts
