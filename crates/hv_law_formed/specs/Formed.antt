-- What each tree is that a source spells, as far as no rule of names or types says it.
use Rattle.std.specs.Prelude.{◌≡◌, ◌⊎◌, ℕ, Option, Some, None, Contains}
use Rattle.std.specs.List.{slice_get}
use Rattle.hv_tree.specs.declared.ast.Operator.{Operator}
use Rattle.hv_tree.specs.declared.ast.Operator.TheVariants as operator
use Rattle.hv_tree.specs.declared.token.Token.{Token}
use Rattle.hv_tree.specs.Tokens.{Tokens, Level, Ors, Ands, Comparisons, Sums, Products}
use Rattle.hv_tree.specs.Core.{Core, CoreExpr, Array, Prefix, Chain, CoreExprs, NoExprs, ExprOf, CoreLinks, NoLinks, LinkOf, end_of}
use Rattle.hv_decls.specs.Locals.{CoreBody}
use Rattle.hv_decls.specs.Sites.{Part, ExprPart, CallPart, PlacePart, StmtPart, TestPart, Site, sites_of, bodies_of}

-- the level of an operator between two operands
abbrev pub level_of : Operator → Option Level
level_of operator.Or = Some Ors
level_of operator.And = Some Ands
level_of operator.Eq = Some Comparisons
level_of operator.Ne = Some Comparisons
level_of operator.Lt = Some Comparisons
level_of operator.Le = Some Comparisons
level_of operator.Gt = Some Comparisons
level_of operator.Ge = Some Comparisons
level_of operator.Add = Some Sums
level_of operator.Sub = Some Sums
level_of operator.Mul = Some Products
level_of operator.Div = Some Products
level_of operator.Rem = Some Products
level_of operator.Neg = None
level_of operator.Not = None

-- a comparison stands alone
abbrev pub MayGoOn : Level → CoreLinks → Type 0
MayGoOn level NoLinks = Unit {0}
MayGoOn level (LinkOf o at x rest) = level ≡ Comparisons → ⊥

-- all operators of a chain are of one level
abbrev pub AreOfLevel : Level → CoreLinks → Type 0
AreOfLevel level NoLinks = Unit {0}
AreOfLevel level (LinkOf o at x rest) = (level_of o ≡ Some level) × MayGoOn level rest × AreOfLevel level rest

-- an array literal has an element
abbrev pub HasElement : CoreExprs → Type 0
HasElement NoExprs = ⊥
HasElement (ExprOf x rest) = Unit {0}

-- what the grammar says of an expression that has operators or elements
abbrev pub ExprIsFormed : CoreExpr → Type 0
ExprIsFormed (Array at xs) = HasElement xs
ExprIsFormed (Prefix at o x) = (o ≡ operator.Neg) ⊎ (o ≡ operator.Not)
ExprIsFormed (Chain at first links) = (level : Level) × AreOfLevel level links
ExprIsFormed _ = Unit {0}

abbrev pub PartIsFormed : Part → Type 0
PartIsFormed (ExprPart x) = ExprIsFormed x
PartIsFormed (CallPart call) = Unit {0}
PartIsFormed (PlacePart root steps) = Unit {0}
PartIsFormed (StmtPart x) = Unit {0}
PartIsFormed (TestPart x) = Unit {0}

-- the body with this number
abbrev pub IsBody : Core → ℕ → CoreBody → Type 0
IsBody tree n body = slice_get (bodies_of tree) n ≡ Some body

-- each part is as the grammar has it, and no two bodies end at one place
pub record IsFormed (tree : Core) : Type 0 where
  pub parts : (w : Site) → Contains (sites_of tree) w → PartIsFormed w.part
  pub apart : (m n : ℕ) (a b : CoreBody) → IsBody tree m a → IsBody tree n b → (end_of a.block).start ≡ (end_of b.block).start → m ≡ n

-- no two tokens stand at one place
pub record AreApart (tokens : Tokens) : Type 0 where
  pub apart : (m n : ℕ) (a b : Token) → slice_get tokens m ≡ Some a → slice_get tokens n ≡ Some b → a.place.start ≡ b.place.start → m ≡ n
