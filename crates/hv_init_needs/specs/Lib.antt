-- what the public contract rests on
pub mod Sight
pub mod Needs
-- what the functions inside promise each other
pub mod Ordered
pub mod Standings
pub mod Words
