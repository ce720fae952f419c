-- what the contracts rest on
pub mod Lists
pub mod Cells
pub mod Levels
-- what the functions inside promise each other
pub mod Stacks
pub mod Histories
pub mod States
