pub mod Quiet
pub mod Agreeing
pub mod Spans
pub mod Variants
pub mod Walks
pub mod Playing
pub mod Handed
