-- what the rules of types ask, as tests
pub mod Tests
-- types, and parts of the tree, as code has them
pub mod Held
pub mod Here
