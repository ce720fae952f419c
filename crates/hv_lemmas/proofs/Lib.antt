pub mod Members
pub mod Lists
pub mod Reversed
pub mod Each
pub mod Bools
