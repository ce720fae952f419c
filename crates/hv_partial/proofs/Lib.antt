pub mod ListLemmas
pub mod NumberLemmas
pub mod VariantLemmas
pub mod WayLemmas
