-- what the contracts rest on
pub mod Spelling
pub mod Planned
-- what the functions inside promise each other
pub mod Scopes
pub mod Plans
pub mod StmtPlans
pub mod BodyPlans
