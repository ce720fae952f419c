pub mod Mapped
pub mod Carried
pub mod Opened
