-- what the contracts rest on
pub mod Laid
pub mod Spans
-- what the functions inside promise each other
pub mod Tracked
pub mod Cuts
pub mod Ends
