-- what the contract of `read_words` rests on
pub mod Taken
pub mod Answers
-- what the functions inside promise each other
pub mod Line
pub mod Settings
pub mod Reading
pub mod Rows
pub mod Telling
