pub mod Cells
pub mod Handles
pub mod Changes
pub mod Sited
pub mod Phase
