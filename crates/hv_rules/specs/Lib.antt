-- handed on: the order of refusals, what is declared, the rules of names and types
pub use Rattle.hv_tree.specs.Earlier
pub use Rattle.hv_decls.specs.Types
pub use Rattle.hv_decls.specs.Locals
pub use Rattle.hv_decls.specs.Sites
pub use Rattle.hv_decls.specs.Paths
pub use Rattle.hv_decls.specs.Statics
pub use Rattle.hv_type_rules.specs.Names
pub use Rattle.hv_type_rules.specs.Typing
pub use Rattle.hv_type_rules.specs.TypeRules
-- events and traces
pub mod Flow
pub mod Events
pub mod States
-- the rules of initialisation, exclusivity and handles
pub mod Rules
-- the first violation, and accepted trees
pub mod Accepted
