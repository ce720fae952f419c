-- what `check` answers
pub mod Checks
