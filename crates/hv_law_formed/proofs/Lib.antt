pub mod Inside
pub mod Fits
pub mod Ways
pub mod Comes
pub mod Braces
pub mod Spelled
-- examples
mod SpelledExample
