-- places, accesses and what is passed
pub mod Accesses
-- constructs over the runs of their parts, the whole tree, and programs
pub mod Parts
pub mod Flat
pub mod Programs
