-- what the contract rests on
pub mod Violations
-- what the functions inside promise each other
pub mod Access
pub mod Clashes
pub mod Told
pub mod Judged
