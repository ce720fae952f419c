-- where the tokens of a source begin
pub mod Begins
-- the places of a program that is read of it
pub mod Inside
-- places at which a source is refused
mod Placed
-- accepted programs are safe
mod Safe
-- the first violation of the rules on tokens and on the grammar
mod Unread
-- the bytes before a refusal are whole characters
mod Characters
