pub mod TypeLemmas
pub mod ExprPlans
pub mod Around
pub mod VariantPlans
pub mod StmtLemmas
pub mod BodyLemmas
