-- what is said of the root
pub mod Root
