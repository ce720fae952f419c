pub mod Runs
pub mod Listed
-- examples
mod Traces
mod EventRows
mod StateRows
mod Violations
mod Corners
mod Accepts
pub mod Obeying
mod Obeys
