-- parts, locals and bodies
pub mod SitesTell
-- violations
pub mod TypesTell
pub mod NamesTell
pub mod EventsTell
-- the places of a tree that tokens spell
pub mod TypesSay
pub mod TreesSay
-- where bodies end
pub mod Counted
pub mod EndsFit
