-- what the cursor's calls give
pub mod Steps
-- a parser that repeats, beside a loop
pub mod Loops
