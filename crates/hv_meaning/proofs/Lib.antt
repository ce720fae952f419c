pub mod DepthLemmas
pub mod RootLemmas
pub mod KindLemmas
