-- what the public clauses rest on
pub mod ValueTree
pub mod Places
pub mod Sizes
pub mod Equality
pub mod Texts
-- what the meaning and the machine share besides
pub mod Holes
pub mod Operators
pub mod Walk
