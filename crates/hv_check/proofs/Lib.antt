-- there is one first violation of some phases
pub mod FirstOnce
-- the source's tokens are the lexer's
pub mod Sources
