-- what the contracts rest on
pub mod Acts
pub mod Graphs
pub mod Walks
-- what the functions inside promise each other
pub mod Reading
pub mod Positions
