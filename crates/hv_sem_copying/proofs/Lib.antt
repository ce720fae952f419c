pub mod Both
pub mod Constructs
pub mod Generic
pub mod Copies
pub mod GoingOn
pub mod Richer
-- runs in another order of writing
pub mod RunLaws
-- examples
mod Programs
mod Examples
mod LentExamples
