pub mod Overlaps
pub mod Programs
