-- A measure of the strengths of operators: an operand of one is weaker by one.
use Rattle.std.specs.Prelude.{ℕ}
use Rattle.hv_syn_grammar.specs.declared.strength.Strength.{Strength}
use Rattle.hv_syn_grammar.specs.declared.strength.Strength.TheVariants as strength

abbrev pub weight : Strength → ℕ
weight strength.Or = 4
weight strength.And = 3
weight strength.Comparison = 2
weight strength.Sum = 1
weight strength.Product = 0
