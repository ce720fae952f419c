-- the open accesses
pub mod Stacks
-- what the words of a plan tell
pub mod Telling
pub mod Clashing
pub mod Refusing
pub mod Judging
pub mod Firsts
