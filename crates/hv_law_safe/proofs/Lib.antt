pub mod Ends
pub mod Lists
pub mod Asked
pub mod Accepted
pub mod Matches
pub mod Named
pub mod Pieces
pub mod Constructs
pub mod Parts
pub mod Theorem
-- examples
mod Examples
