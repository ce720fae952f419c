pub mod BindingLemmas
pub mod BlockLemmas
pub mod BranchLemmas
pub mod HollowLemmas
pub mod Sequence
pub mod SpawnLemmas
pub mod StatementLemmas
pub mod TurnLemmas
