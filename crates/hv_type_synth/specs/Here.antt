-- What is around a part, and the types of expressions and callees there.
use Rattle.std.specs.Prelude.{ℕ, List, [], ◌∷◌, ◌++◌, Option, Some, None, map}
use Rattle.hv_tree.specs.declared.types.Name.{Name}
use Rattle.hv_tree.specs.declared.types.Ty.{Ty}
use Rattle.hv_tree.specs.declared.refusal.Refusal.{Refusal}
use Rattle.hv_tree.specs.declared.ast.Arg.{Arg}
use Rattle.hv_tree.specs.declared.ast.Call.{Call}
use Rattle.hv_tree.specs.declared.ast.Expr.{Expr}
use Rattle.hv_tree.specs.declared.ast.PlaceExpr.{PlaceExpr}
use Rattle.hv_tree.specs.declared.ast.Step.{Step}
use Rattle.hv_tree.specs.declared.ast.Stmt.{Stmt}
use Rattle.hv_tree.specs.Core.{Core, core_tree, core_option_ty, core_of, core_place, CoreSteps, NoSteps, core_step, core_steps}
use Rattle.hv_decls.specs.Types.{ValueType}
use Rattle.hv_decls.specs.Locals.{LocalKind, Local, local_in}
use Rattle.hv_decls.specs.Sites.{Scope}
use Rattle.hv_type_rules.specs.Typing as typing
use Rattle.hv_type_rules.specs.Typing.{Known, Signature, type_of}
use Rattle.hv_scope.specs.declared.known.Kind.{Kind}
use Rattle.hv_scope.specs.Known as scopes
use Rattle.hv_type_synth.specs.declared.around.Around.{Around}

abbrev pub kind_of : Kind → LocalKind
kind_of k = scopes.kind_of k

-- a step by itself
abbrev pub one_step : Step → CoreSteps
one_step s = core_step s NoSteps

abbrev pub steps_of : List Step → CoreSteps
steps_of steps = core_steps steps

-- the program
abbrev pub tree_in : Around → Core
tree_in a = core_tree a.declared.now

-- the names of the structs whose values have function values in them
abbrev pub holding_in : Around → List (List ℕ)
holding_in a = a.holding.now

abbrev pub visible_in : Around → List Local
visible_in a = map scopes.local_by a.visible.now

abbrev pub scope_in : Around → Scope
scope_in a = record { visible = visible_in a; result = core_option_ty a.returned.now }

module _ (a : Around) where
  abbrev pub local_named : Name → Option Local
  local_named name = local_in (visible_in a) name.text

  abbrev pub place_here : PlaceExpr → Option ValueType
  place_here p = typing.place_type (tree_in a) (visible_in a) (core_place p).0 (core_place p).1

  abbrev pub type_here : Expr → Known
  type_here x = type_of (tree_in a) (visible_in a) (core_of x)

  abbrev pub signature_of : PlaceExpr → Signature
  signature_of p = typing.signature_of (tree_in a) (visible_in a) (core_place p).0 (core_place p).1
