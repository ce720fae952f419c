-- The levels of binary operators, and the operators of each by their spelling.
use Rattle.std.specs.Prelude.{ℕ, Bool, true, false, if◌then◌else◌, List, [], ◌∷◌, Option, Some, None, codes}
use Rattle.std.specs.Str.{bytes_eq}
use Rattle.hv_tree.specs.declared.token.Token.{Token}
use Rattle.hv_tree.specs.declared.token.TokenKind.{TokenKind}
use Rattle.hv_tree.specs.declared.token.TokenKind.TheVariants as kind
use Rattle.hv_tree.specs.declared.ast.Operator.{Operator}
use Rattle.hv_tree.specs.declared.ast.Operator.TheVariants as operator
use Rattle.hv_tree.specs.Tokens.{Tokens, Level, Ors, Ands, Comparisons, Sums, Products}
use Rattle.hv_syn_grammar.specs.declared.strength.Strength.{Strength}
use Rattle.hv_syn_grammar.specs.declared.strength.Strength.TheVariants as strength

abbrev pub level_of : Strength → Level
level_of strength.Or = Ors
level_of strength.And = Ands
level_of strength.Comparison = Comparisons
level_of strength.Sum = Sums
level_of strength.Product = Products

abbrev pub infixes : Level → List (List ℕ × Operator)
infixes Ors = (codes "||", operator.Or) ∷ []
infixes Ands = (codes "&&", operator.And) ∷ []
infixes Comparisons = (codes "==", operator.Eq) ∷ (codes "!=", operator.Ne) ∷ (codes "<", operator.Lt) ∷ (codes "<=", operator.Le) ∷ (codes ">", operator.Gt) ∷ (codes ">=", operator.Ge) ∷ []
infixes Sums = (codes "+", operator.Add) ∷ (codes "-", operator.Sub) ∷ []
infixes Products = (codes "*", operator.Mul) ∷ (codes "/", operator.Div) ∷ (codes "%", operator.Rem) ∷ []

abbrev pub entry : List (List ℕ × Operator) → List ℕ → Option Operator
entry [] text = None
entry (x ∷ more) text = if bytes_eq text x.0 then Some x.1 else entry more text

abbrev pub entry_kind : Level → TokenKind → Option Operator
entry_kind l (kind.Mark text) = entry (infixes l) text
entry_kind l _ = None

abbrev pub has : Option Operator → Bool
has (Some op) = true
has None = false

-- whether a token is an operator of the level
abbrev pub is_infix : Level → Token → Bool
is_infix l k = has (entry_kind l k.kind)

abbrev pub or_add : Option Operator → Operator
or_add (Some op) = op
or_add None = operator.Add

abbrev pub operator_of : Level → Token → Operator
operator_of l k = or_add (entry_kind l k.kind)

-- the operator of the level that comes next
abbrev pub next_infix : Level → Tokens → Option Operator
next_infix l [] = None
next_infix l (k ∷ ts) = entry_kind l k.kind
