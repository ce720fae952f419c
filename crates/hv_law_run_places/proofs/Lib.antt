pub mod Tells
pub mod PartsTell
pub mod TreesTell
pub mod NodesTell
-- examples
mod Examples
