-- the places of a tree
pub mod Places
pub mod TokenPlaces
pub mod Ends
