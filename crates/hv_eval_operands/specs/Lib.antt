-- what contracts rest on
pub mod Links
pub mod Places
pub mod Operands
