-- what holds of each event
pub mod Each
-- what each part of a body leaves in sight
pub mod Around
-- what holds of each event of an expression
pub mod Calm
-- what each part leaves in sight, whatever run is taken
pub mod SightLevels
-- what is in sight has its value
pub mod Filled
-- what is written back at an end is in sight there
pub mod Gives
pub mod Backs
-- a local that needs no state is filled wherever it is asked for
pub mod Settled
-- the locals in sight, in order
pub mod Falling
-- the standing of each local
pub mod Settling
-- what the words of a plan tell
pub mod Telling
