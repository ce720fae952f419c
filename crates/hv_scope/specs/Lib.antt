-- what the contracts rest on
pub mod Known
pub mod Tops
pub mod Oldest
pub mod Bodies
-- what the functions inside promise each other
pub mod Blocks
pub mod Entries
