pub mod Runs
pub mod Spots
pub mod Constructs
pub mod Whole
pub mod Programs
