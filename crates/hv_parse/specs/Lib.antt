-- what the contract of `parse` rests on
pub mod Answers
-- what the functions inside promise each other
pub mod Parts
pub mod Whole
