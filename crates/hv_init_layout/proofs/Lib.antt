-- the locals that have cells
pub mod Tracking
-- ascending positions
pub mod CutLemmas
-- what occurs in a body has its ends among the positions
pub mod Traced
pub mod Ending
pub mod Fitting
-- the cells of locals that follow one another
pub mod Following
