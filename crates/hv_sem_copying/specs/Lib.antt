-- tasks, runs, and what a kind of state offers
pub mod Node
pub mod Run
pub mod Ops
-- constructs over the runs of their parts, and then the whole tree
pub mod Operations
pub mod Places
pub mod Calls
pub mod Blocks
pub mod Evaluate
-- the kind of state that copies, and programs
pub mod Copying
pub mod Meaning
-- comparing kinds of state
pub mod Alike
pub mod Laws

-- blocks as a loop goes through them
-- programs that are safe as they stand
