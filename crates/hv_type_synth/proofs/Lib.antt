pub mod Opened
pub mod Callees
pub mod Elements
pub mod Loops
