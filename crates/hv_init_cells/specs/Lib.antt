-- what the contract rests on
pub mod Layout
pub mod Acts
pub mod Plain
pub mod Ranked
pub mod Law
