-- what the contract rests on
pub mod Plans
pub mod Refused
-- what the functions inside promise each other
pub mod Hints
pub mod Cells
pub mod Passes
