-- what the public contract rests on
pub mod Table
pub mod Rows
pub mod Reached
pub mod Leaves
-- what the functions inside promise each other
pub mod Rounds
