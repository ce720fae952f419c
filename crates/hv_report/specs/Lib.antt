-- the texts
pub mod Lines
