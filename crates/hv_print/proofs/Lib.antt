pub mod Parts
pub mod PieceBytes
pub mod Placeless
-- what a tree that is spelled is
pub mod Proper
pub mod ProperTypes
pub mod ProperTrees
-- the tokens of the printed form spell the tree
pub mod SpelledTypes
pub mod SpelledParts
pub mod Levels
pub mod SpelledLists
pub mod SpelledNodes
pub mod SpelledExprs
pub mod SpelledProgram
-- the pieces of the printed form are those that are cut
pub mod Numerals
pub mod Fits
pub mod Cutting
pub mod PieceReads
pub mod LexedPieces
pub mod ApartParts
pub mod ApartExprs
pub mod ApartProgram
-- both together
pub mod ReadsBack
pub mod OneTree
pub mod TellsApart
-- programs that meet the premises
pub mod WrittenExample
pub mod ReadTrees
