pub mod MappedLemmas
pub mod CarriedLemmas
pub mod Levels
pub mod OpenedLemmas
