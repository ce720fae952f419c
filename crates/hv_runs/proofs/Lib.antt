-- the parts of the tree as code has them
pub mod Parts
-- the walk tests exactly what the definition says
mod Sited
mod Decided
pub mod Exact
