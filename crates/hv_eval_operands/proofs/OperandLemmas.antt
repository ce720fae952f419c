-- The next operand, and those behind it.
use Rattle.std.proofs.Common.{◌≡◌, ◌<◌, ◌+◌, ℕ, Bool, true, false, if◌then◌else◌, List, [], ◌∷◌, ◌++◌, length, drop, get_or, sym, ap, ◌∙◌}
use Rattle.hv_tree.specs.declared.place.Place.{Place}
use Rattle.hv_tree.specs.declared.types.Name.{Name}
use Rattle.hv_tree.specs.declared.ast.Expr.{Expr}
use Rattle.hv_tree.specs.declared.ast.Operator.{Operator}
use Rattle.hv_value.specs.ValueTree.{ValueTree}
use Rattle.hv_sem_copying.specs.Run.{◌>>=◌, pure}
use Rattle.hv_sem_copying.specs.Operations.{applied}
use Rattle.hv_value.specs.Operators.{binary, decides}
use Rattle.hv_sem_copying.proofs.RunLaws.{bind_assoc}
use Rattle.hv_sem_flat.specs.Accesses.{Plain}
use Rattle.hv_lemmas.proofs.Lists.{first_left}
use Rattle.hv_eval_env.specs.declared.level.Level.{Level}
use Rattle.hv_eval_env.specs.Level.{value_in}
use Rattle.hv_eval_operands.specs.Operands.{values_in, chained_in, captured_in, operated, capture_in}

module _ (l : Level) where
  abbrev pub values_behind : List ValueTree → List Expr → ValueTree → Plain (List ValueTree)
  values_behind vs xs w = values_in l (vs ++ w ∷ []) xs

  pub values_next : (vs : List ValueTree) (xs : List Expr) (i : ℕ) (x : Expr) → i < length xs → x ≡ get_or xs i x → values_in l vs (drop i xs) ≡ value_in l x >>= values_behind vs (drop (i + 1) xs)
  values_next vs xs i x within is = ap (values_in l vs) (first_left xs i x within is)

  abbrev pub captured_behind : List ValueTree → List Name → ValueTree → Plain (List ValueTree)
  captured_behind vs names w = captured_in l (vs ++ w ∷ []) names

  pub captured_next : (vs : List ValueTree) (names : List Name) (i : ℕ) (name : Name) → i < length names → name ≡ get_or names i name → captured_in l vs (drop i names) ≡ capture_in l name >>= captured_behind vs (drop (i + 1) names)
  captured_next vs names i name within is = ap (captured_in l vs) (first_left names i name within is)

  -- ---- chains

  abbrev chained_by : ValueTree → Operator × Place × Expr → List (Operator × Place × Expr) → Bool → Plain ValueTree
  chained_by w link rest b = if b then pure w else (value_in l link.2 >>= (λ u. applied link.1 (binary link.0 w u) >>= chained_in l rest))

  module _ (w : ValueTree) (links : List (Operator × Place × Expr)) (i : ℕ) (link : Operator × Place × Expr) (within : i < length links) (is : link ≡ get_or links i link) where
    decided : (b : Bool) → decides link.0 w ≡ b → chained_in l (drop i links) w ≡ chained_by w link (drop (i + 1) links) b
    decided b h = ap (λ ls. chained_in l ls w) (first_left links i link within is) ∙ ap (chained_by w link (drop (i + 1) links)) h

    pub chain_stops : decides link.0 w ≡ true → chained_in l (drop i links) w ≡ pure w
    chain_stops h = decided true h

    pub chain_next : decides link.0 w ≡ false → chained_in l (drop i links) w ≡ operated l w link >>= chained_in l (drop (i + 1) links)
    chain_next h = decided false h ∙ sym (bind_assoc (value_in l link.2) (λ u. applied link.1 (binary link.0 w u)) (chained_in l (drop (i + 1) links)))
