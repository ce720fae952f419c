-- what loops of this crate cite
mod Columns
mod Dotted
-- the equations of the plain form
pub mod CoreLemmas
-- the definitions, seen to hold and to fail
pub mod Refused
mod Examples
mod NotSpelled
mod PrintedExamples
pub mod CoreParts
pub mod Orders
