-- places inside a source
pub mod Inside
-- places at which a source is refused
pub mod Placed
-- what a source violates
pub mod Unread
