-- parsers as functions on lists of tokens
pub mod Parser
pub mod Room
pub mod Lexemes
-- the grammar as such functions
pub mod Levels
pub mod Signatures
pub mod Expressions
pub mod Statements
pub mod Declarations
-- what a function that parses ensures
pub mod Reads
