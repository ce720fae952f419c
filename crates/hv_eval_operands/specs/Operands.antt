-- Expressions over several operands at a level.
use Rattle.std.specs.Prelude.{List, [], map}
use Rattle.hv_tree.specs.declared.place.Place.{Place}
use Rattle.hv_tree.specs.declared.types.Name.{Name}
use Rattle.hv_tree.specs.declared.ast.Expr.{Expr}
use Rattle.hv_tree.specs.declared.ast.Operator.{Operator}
use Rattle.hv_tree.specs.Core.{CoreBlock, core_exprs, core_links}
use Rattle.hv_decls.specs.Sites.{bodies_of}
use Rattle.hv_value.specs.ValueTree.{ValueTree, Elements, Closure, row}
use Rattle.hv_sem_copying.specs.declared.end.Cause.TheVariants.{Kinds}
use Rattle.hv_sem_copying.specs.Run.{◌>>=◌, pure, known}
use Rattle.hv_sem_copying.specs.Operations.{number, applied, filled_with}
use Rattle.hv_value.specs.Operators.{unary, binary}
use Rattle.hv_sem_copying.specs.Places.{body_number, local}
use Rattle.hv_sem_flat.specs.Accesses.{Plain, look}
use Rattle.hv_sem_flat.specs.Parts.{captured_from, copied}
use Rattle.hv_sem_flat.specs.Flat.{values_from, chained}
use Rattle.hv_partial.specs.declared.tree.Held.{Held}
use Rattle.hv_partial.specs.HeldTree.{held_tree}
use Rattle.hv_eval_env.specs.declared.level.Level.{Level}
use Rattle.hv_eval_env.specs.Level.{tree_in, locals_in, deeper_in, value_in}

abbrev pub trees : List Held → List ValueTree
trees hs = map held_tree hs

-- those so far, and then these in order
abbrev pub values_in : Level → List ValueTree → List Expr → Plain (List ValueTree)
values_in l vs xs = values_from (tree_in l) (locals_in l) (deeper_in l) vs (core_exprs xs)

abbrev pub array_in : Level → List Expr → Plain ValueTree
array_in l xs = values_in l [] xs >>= (λ vs. pure (Elements (row vs)))

abbrev pub filled_in : Level → Place → Expr → Expr → Plain ValueTree
filled_in l at len x = value_in l len >>= (λ n. value_in l x >>= (λ w. number n >>= filled_with at w))

abbrev pub prefix_in : Level → Place → Operator → Expr → Plain ValueTree
prefix_in l at op x = value_in l x >>= (λ w. applied at (unary op w))

-- ---- chains

abbrev pub chained_in : Level → List (Operator × Place × Expr) → ValueTree → Plain ValueTree
chained_in l links w = chained (tree_in l) (locals_in l) (deeper_in l) (core_links links) w

abbrev pub chain_in : Level → Expr → List (Operator × Place × Expr) → Plain ValueTree
chain_in l first links = value_in l first >>= chained_in l links

-- ---- lambdas

-- those so far, and then these in order
abbrev pub captured_in : Level → List ValueTree → List Name → Plain (List ValueTree)
captured_in l vs names = captured_from (locals_in l) vs names

abbrev pub lambda_in : Level → List Name → CoreBlock → Plain ValueTree
lambda_in l captures body = captured_in l [] captures >>= (λ vs. known Kinds (body_number (bodies_of (tree_in l)) body) >>= (λ f. pure (Closure f (row vs))))

-- ---- inside

-- an operator applied to what stands before it and to its operand
abbrev pub operated : Level → ValueTree → Operator × Place × Expr → Plain ValueTree
operated l w link = value_in l link.2 >>= (λ u. applied link.1 (binary link.0 w u))

abbrev pub capture_in : Level → Name → Plain ValueTree
capture_in l name = copied name.place (local (locals_in l) name >>= (λ x. look x []))
