pub mod Runs
pub mod LinkLemmas
pub mod PlaceLemmas
pub mod OperandLemmas
pub mod CaptureLemmas
pub mod FillLemmas
