-- what a type is
pub mod Opened
pub mod Numbers
pub mod Shaped
-- its leaves
pub mod Sums
pub mod Settled
pub mod Ranges
