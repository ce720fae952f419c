-- what stands right inside a bracket, by the room there
mod Rooms
-- a parser that repeats up to a last part, beside a loop
mod Untils
mod ElseTurns
mod ItemTurns
-- what is read of whole lists
mod Ends
mod Wholes
-- of all refusals of a list of tokens there is one
pub mod Once
