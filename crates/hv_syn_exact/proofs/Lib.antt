-- what it is that a parser reads exactly a relation, and the steps that keep it
pub mod Exact
pub mod Until
pub mod Lexemes
pub mod At
-- what goes on after each part, and what stands inside brackets
pub mod Inner
-- short forms
pub mod Shorts
-- parts with commas between
pub mod Separated
-- conventions
pub mod ConvRules
-- types
pub mod TypeRules
-- names, parameters and results
pub mod ParamRules
-- the answer on a whole list
pub mod Whole
pub mod Rooms
pub mod Programs
pub mod Mapped
pub mod Semicolons
pub mod DeclRules
-- a part between two brackets
pub mod Between
-- what expressions begin with
pub mod Beginnings
-- arguments
pub mod ArgRules
-- steps, places, calls and blocks
pub mod StepRules
-- primaries
pub mod PrimaryParts
pub mod PrimaryRules
-- binary operators
pub mod InfixSigns
pub mod ChainRules
pub mod LevelRules
-- statements, given what they are made of
pub mod Parts
pub mod Bindings
pub mod Actions
pub mod Branches
pub mod Others
pub mod StmtLists
pub mod Knot
