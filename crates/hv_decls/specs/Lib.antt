pub mod Types
pub mod Locals
pub mod Sites
pub mod Paths
pub mod Statics
