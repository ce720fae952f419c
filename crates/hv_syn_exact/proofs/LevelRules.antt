-- What may stand before a primary, and the levels of binary operators.
use Rattle.std.proofs.Common.{◌≡◌, ℕ, false, List, [], ◌∷◌, ◌++◌, Some, inl, inr, refl}
use Rattle.std.specs.Prelude.{codes}
use Rattle.hv_tree.specs.declared.place.Place.{Place}
use Rattle.hv_tree.specs.declared.ast.Operator.{Operator}
use Rattle.hv_tree.specs.declared.ast.Operator.TheVariants as operator
use Rattle.hv_tree.specs.declared.ast.Expr.{Expr}
use Rattle.hv_tree.specs.declared.ast.ExprKind.TheVariants as variant
use Rattle.hv_tree.specs.Tokens.{Tokens, mark, Level, Ors, Ands, Comparisons, Sums, Products}
use Rattle.hv_tree.specs.Grammar.{expr_at, IsOperand, IsLevel, IsUnary, IsPrimary, and_operand, comparison_operand, sum_operand, product_operand, unary_operand, plain_unary, negated_unary, inverted_unary}
use Rattle.hv_tree.specs.Refusal.{is_mark}
use Rattle.hv_syn_grammar.specs.Room.{room}
use Rattle.hv_syn_grammar.specs.Expressions as mirror
use Rattle.hv_syn_grammar.specs.Expressions.{Inner, begins_primary}
use Rattle.hv_syn_exact.proofs.Exact.{Exact, Stops, Either, choose_exact, exact_by}
use Rattle.hv_syn_exact.proofs.Lexemes.{After, a_mark, next_exact}
use Rattle.hv_syn_exact.proofs.Inner.{on_path, on_product, on_sum, on_comparison, on_conjunction, on_expr, InnerExact}
use Rattle.hv_syn_exact.proofs.Shorts.{on_at, begins_stops, excludes, after_off, either_off, zero_at}
use Rattle.hv_syn_exact.proofs.Between.{Mapped, mapped_exact, mapped_parts, mapped_by}
use Rattle.hv_syn_exact.proofs.Beginnings.{primary_begins}
use Rattle.hv_syn_exact.proofs.PrimaryRules.{primary_exact}
use Rattle.hv_syn_exact.proofs.ChainRules.{level_exact, comparisons_exact}

-- ---- what may stand before a primary

abbrev prefixed_by : Operator → Place → Expr → Expr
prefixed_by op at x = expr_at at (variant.Prefix op x)

abbrev Prefixed : List ℕ → Operator → Expr → Tokens → Type 0
Prefixed spelling op = After (mark spelling) (λ at. Mapped IsPrimary (prefixed_by op at))

abbrev Inverted : Expr → Tokens → Type 0
Inverted = Either (Prefixed (codes "!") operator.Not) IsPrimary

abbrev Unary : Expr → Tokens → Type 0
Unary = Either (Prefixed (codes "-") operator.Neg) Inverted

to_unary : (x : Expr) (ts : Tokens) → Unary x ts → IsUnary x ts
to_unary x ts (inl f) = let m = mapped_parts IsPrimary (prefixed_by operator.Neg f.0) x f.1 f.2 in negated_unary f.0 m.0 f.1 m.1 m.2 f.3
to_unary x ts (inr (inl f)) = let m = mapped_parts IsPrimary (prefixed_by operator.Not f.0) x f.1 f.2 in inverted_unary f.0 m.0 f.1 m.1 m.2 f.3
to_unary x ts (inr (inr h)) = plain_unary h

from_unary : (x : Expr) (ts : Tokens) → IsUnary x ts → Unary x ts
from_unary x ts (plain_unary h) = inr (inr h)
from_unary x ts (negated_unary at operand a h e is) = inl (at, a, mapped_by IsPrimary (prefixed_by operator.Neg at) operand x a h e, is)
from_unary x ts (inverted_unary at operand a h e is) = inr (inl (at, a, mapped_by IsPrimary (prefixed_by operator.Not at) operand x a h e, is))

primary_off : (s : List ℕ) → ((at : Place) → begins_primary (mark s at) ≡ false) → (x : Expr) (ts rest : Tokens) → IsPrimary x ts → Stops (is_mark s) (ts ++ rest)
primary_off s off x ts rest h = begins_stops begins_primary (is_mark s) (excludes s begins_primary off) ts rest (primary_begins x ts h)

not_negated : (x : Expr) (ts rest : Tokens) → Inverted x ts → Stops (is_mark (codes "-")) (ts ++ rest)
not_negated = either_off (Prefixed (codes "!") operator.Not) IsPrimary _ (after_off _ _ _ (λ at. refl)) (primary_off (codes "-") (λ at. refl))

-- ---- the operands of each level

of_products : {l : Level} (x : Expr) (ts : Tokens) → l ≡ Products → IsOperand l x ts → IsUnary x ts
of_products x ts e (and_operand e' h) = absurd (cc)
of_products x ts e (comparison_operand e' h) = absurd (cc)
of_products x ts e (sum_operand e' h) = absurd (cc)
of_products x ts e (product_operand e' h) = absurd (cc)
of_products x ts e (unary_operand e' h) = h

of_sums : {l : Level} (x : Expr) (ts : Tokens) → l ≡ Sums → IsOperand l x ts → IsLevel Products x ts
of_sums x ts e (and_operand e' h) = absurd (cc)
of_sums x ts e (comparison_operand e' h) = absurd (cc)
of_sums x ts e (sum_operand e' h) = absurd (cc)
of_sums x ts e (product_operand e' h) = h
of_sums x ts e (unary_operand e' h) = absurd (cc)

of_comparisons : {l : Level} (x : Expr) (ts : Tokens) → l ≡ Comparisons → IsOperand l x ts → IsLevel Sums x ts
of_comparisons x ts e (and_operand e' h) = absurd (cc)
of_comparisons x ts e (comparison_operand e' h) = absurd (cc)
of_comparisons x ts e (sum_operand e' h) = h
of_comparisons x ts e (product_operand e' h) = absurd (cc)
of_comparisons x ts e (unary_operand e' h) = absurd (cc)

of_ands : {l : Level} (x : Expr) (ts : Tokens) → l ≡ Ands → IsOperand l x ts → IsLevel Comparisons x ts
of_ands x ts e (and_operand e' h) = absurd (cc)
of_ands x ts e (comparison_operand e' h) = h
of_ands x ts e (sum_operand e' h) = absurd (cc)
of_ands x ts e (product_operand e' h) = absurd (cc)
of_ands x ts e (unary_operand e' h) = absurd (cc)

of_ors : {l : Level} (x : Expr) (ts : Tokens) → l ≡ Ors → IsOperand l x ts → IsLevel Ands x ts
of_ors x ts e (and_operand e' h) = h
of_ors x ts e (comparison_operand e' h) = absurd (cc)
of_ors x ts e (sum_operand e' h) = absurd (cc)
of_ors x ts e (product_operand e' h) = absurd (cc)
of_ors x ts e (unary_operand e' h) = absurd (cc)

-- ---- the parsers

module _ (d : ℕ) (i : Inner) (inner : InnerExact d i) where
  plain_exact : Exact d d on_path IsPrimary (mirror.primary d i)
  plain_exact = primary_exact d i inner

  prefixed_exact : (spelling : List ℕ) (op : Operator) → ((at : Place) → room d (mark spelling at ∷ []) ≡ Some d) → Exact d d on_path (Prefixed spelling op) (mirror.prefixed d i spelling op)
  prefixed_exact spelling op neutral =
      next_exact _ _ _ (a_mark spelling) _ _ d d d on_path neutral (λ at. mapped_exact d d on_path IsPrimary (mirror.primary d i) (prefixed_by op at) plain_exact)

  pub unary_exact : Exact d d on_path IsUnary (mirror.unary d i)
  unfolding mirror.unary
  unary_exact =
      exact_by d d on_path Unary IsUnary _
      (choose_exact d d (is_mark (codes "-")) (Prefixed (codes "-") operator.Neg) Inverted _ _ on_path on_path on_path (prefixed_exact (codes "-") operator.Neg (λ at. refl))
      (choose_exact d d (is_mark (codes "!")) (Prefixed (codes "!") operator.Not) IsPrimary _ _ on_path on_path on_path (prefixed_exact (codes "!") operator.Not (λ at. refl)) plain_exact
      (λ x ts f. on_at _ _ ts f.1 f.3 refl) (λ x ts rest h s. primary_off (codes "!") (λ at. refl) x ts rest h) (λ rest s. s) (λ rest s. s))
      (λ x ts f. on_at _ _ ts f.1 f.3 refl) (λ x ts rest h s. not_negated x ts rest h) (λ rest s. s) (λ rest s. s))
      to_unary from_unary

  pub product_exact : Exact d d on_product (IsLevel Products) (mirror.product d i)
  unfolding mirror.product
  product_exact =
      level_exact d Products IsUnary on_path (mirror.unary d i) unary_exact (λ x ts h. unary_operand refl h) (λ x ts h. of_products x ts refl h)
      (mark (codes "*") zero_at) refl (λ at. (refl, (refl, (refl, tt)))) (λ q. cc)

  pub sum_exact : Exact d d on_sum (IsLevel Sums) (mirror.sum d i)
  unfolding mirror.sum
  sum_exact =
      level_exact d Sums (IsLevel Products) on_product (mirror.product d i) product_exact (λ x ts h. product_operand refl h) (λ x ts h. of_sums x ts refl h)
      (mark (codes "+") zero_at) refl (λ at. (refl, (refl, tt))) (λ q. cc)

  pub comparison_exact : Exact d d on_comparison (IsLevel Comparisons) (mirror.comparison d i)
  unfolding mirror.comparison
  comparison_exact =
      comparisons_exact d (IsLevel Sums) on_sum (mirror.sum d i) sum_exact (λ x ts h. sum_operand refl h) (λ x ts h. of_comparisons x ts refl h)
      (mark (codes "<") zero_at) refl (λ at. (refl, (refl, (refl, (refl, (refl, (refl, tt)))))))

  pub conjunction_exact : Exact d d on_conjunction (IsLevel Ands) (mirror.conjunction d i)
  unfolding mirror.conjunction
  conjunction_exact =
      level_exact d Ands (IsLevel Comparisons) on_comparison (mirror.comparison d i) comparison_exact (λ x ts h. comparison_operand refl h) (λ x ts h. of_ands x ts refl h)
      (mark (codes "&&") zero_at) refl (λ at. (refl, tt)) (λ q. cc)

  pub disjunction_exact : Exact d d on_expr (IsLevel Ors) (mirror.disjunction d i)
  unfolding mirror.disjunction
  disjunction_exact =
      level_exact d Ors (IsLevel Ands) on_conjunction (mirror.conjunction d i) conjunction_exact (λ x ts h. and_operand refl h) (λ x ts h. of_ors x ts refl h)
      (mark (codes "||") zero_at) refl (λ at. (refl, tt)) (λ q. cc)
