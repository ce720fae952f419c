-- what the public clauses rest on
pub mod HeldTree
pub mod Ways
pub mod Results
-- what the functions inside promise each other
pub mod OneStep
