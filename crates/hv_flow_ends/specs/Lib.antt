-- what the contract rests on
pub mod Ends
pub mod Words
-- what the functions inside promise each other
pub mod Walked
