pub mod LocalLemmas
pub mod SpotLemmas
pub mod AccessLemmas
pub mod ComputeLemmas
