-- what the public contracts rest on
pub mod Tokens
pub mod Reasons
pub mod Numbers
pub mod Outcomes
-- the two rules, and what each step tells
pub mod StopRule
pub mod CellRule
pub mod CellPlays
-- what lies in rights and watches
pub mod Heads
pub mod WatchRights
pub mod FreeRights
pub mod FinisherRights
pub mod AwaiterRights
pub mod PartedRights
pub mod Bringing
