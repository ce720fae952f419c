-- a program with its places set aside
pub mod Aside
-- the printed form as a list of tokens and white space
pub mod Pieces
-- the tokens that a lexer makes
pub mod Spellings
-- what is read of the printed form
pub mod ReadBack
-- what the functions inside promise each other
pub mod Texts
