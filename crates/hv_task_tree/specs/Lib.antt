-- what the meaning calls it
pub mod Seen
