-- what the contracts rest on
pub mod Programs
pub mod Level
pub mod Nests
pub mod Callees
-- what the functions inside promise each other
pub mod Firsts
