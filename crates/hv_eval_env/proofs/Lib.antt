pub mod PlaceLemmas
pub mod BodyLemmas
pub mod NameLemmas
