-- a span of locals
pub mod Spans
-- acts that refuse as much as others
pub mod Alike
-- what the words of a plan spell
pub mod Told
pub mod Bodies
