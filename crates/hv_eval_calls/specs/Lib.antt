-- what the contracts rest on
pub mod Passes
pub mod Entered
pub mod Calling
pub mod Children
-- what the functions inside promise each other
pub mod Arguments
