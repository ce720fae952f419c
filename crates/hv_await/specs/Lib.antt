-- what the functions inside promise each other
pub mod Acts
pub mod Ops
pub mod Found
pub mod Changing
