-- what the contract of `lex` rests on
pub mod Characters
pub mod Pieces
pub mod Lexes
-- what the functions inside promise each other
pub mod Cutting
pub mod Reading
