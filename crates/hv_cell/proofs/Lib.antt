pub mod Lists
pub mod StopSteps
pub mod Sides
pub mod Moves
pub mod Seating
pub mod Arriving
pub mod Opened
