-- what the functions inside promise each other
pub mod Hollows
pub mod Runs
pub mod Spawns
pub mod Statements
