-- Related operations give related runs.
use Rattle.std.proofs.Common.{ℕ, zero, suc, pos, List, [], ◌∷◌, ◌++◌, length, Option, Some, None}
use Rattle.std.specs.List.{slice_get}
use Rattle.hv_tree.specs.Core.{Core, CoreParam, CoreExpr, Number, Truth, Path, Calls, Awaits, Array, Filled, Count, Lambda, Prefix, Chain, CoreExprs, NoExprs, ExprOf, CoreLinks, NoLinks, LinkOf, CoreSteps, NoSteps, FieldStep, IndexStep, CoreCall, CallOf, CoreArgs, NoArgs, ValueArg, RefArg, CoreBlock, BlockOf, CoreStmts, NoStmts, StmtOf, CoreBranches, NoElse, Else, BranchOf, CoreStmt, Var, VarWith, Let, Inout, Assign, If, While, Return, ReturnWith, Print, Task, AwaitsAlone, CallsAlone, Bare}
use Rattle.hv_decls.specs.Types.{ValueType}
use Rattle.hv_decls.specs.Locals.{Local, CoreBody, locals_of, number_in}
use Rattle.hv_decls.specs.Sites.{bodies_of}
use Rattle.hv_decls.specs.Statics.{field_at, element_at}
use Rattle.hv_value.specs.ValueTree.{ValueTree, Fields, Elements, Closure, Parts, Nil, row}
use Rattle.hv_value.specs.ValueTree as v
use Rattle.hv_value.specs.Texts.{text}
use Rattle.hv_value.specs.Walk.{ToField, ToIndex}
use Rattle.hv_sem_copying.specs.declared.end.Cause.TheVariants.{Kinds}
use Rattle.hv_sem_copying.specs.Run.{Run, Flow}
use Rattle.hv_sem_copying.specs.Ops.{Writes, Passed, Ops}
use Rattle.hv_value.specs.Operators.{binary, unary, decides}
use Rattle.hv_sem_copying.specs.Places.{holes, body_number, type_of}
use Rattle.hv_sem_copying.specs.Calls.{Deeper, passed_captures}
use Rattle.hv_sem_copying.specs.Blocks.{first_token}
use Rattle.hv_sem_copying.specs.Evaluate.{value, values, chained, indices, place_in, call, parts, args, child, own_values, block, statements, statement, choices, body_by, bodies_run, activations}
use Rattle.hv_sem_copying.specs.Alike.{Relation, Alike, Related}
use Rattle.hv_sem_copying.proofs.Both.{bind, pure_alike, stuck_alike, known_alike, if_alike, counted_alike, unless_alike}
use Rattle.hv_sem_copying.proofs.Constructs as is
use Rattle.hv_sem_copying.proofs.Constructs.{AlikePlaced, AlikeDeeper}

module _ {C D S T : Type 0} (r : Relation C D S T) (A : Ops C S) (B : Ops D T) (ok : Related r A B) (tree : Core) where
  module _ (locals : List Local) (deeper : Deeper C S) (deeper' : Deeper D T) (down : AlikeDeeper r deeper deeper') where
    mutual
      pub value_alike : (x : CoreExpr) → Alike r (value A tree locals deeper x) (value B tree locals deeper' x)
      value_alike (Number at z) = pure_alike r ok.kept (v.Number z)
      value_alike (Truth at b) = pure_alike r ok.kept (v.Truth b)
      value_alike (Path at root steps) =
          is.named_alike r A B ok tree (number_in locals root.text) root steps (is.found_alike r A B ok locals tree root steps (indices_alike (type_of locals root) steps))
      value_alike (Calls at c) = call_alike c
      value_alike (Awaits at name) = bind r ok.kept (is.local_alike r A B ok locals name) ok.await
      value_alike (Array at xs) = bind r ok.kept (values_alike xs) (λ vs. pure_alike r ok.kept (Elements (row vs)))
      value_alike (Filled at len x) =
          bind r ok.kept (value_alike len) (λ n. bind r ok.kept (value_alike x) (λ w. bind r ok.kept (is.number_alike r A B ok n) (is.filled_alike r A B ok at w)))
      value_alike (Count at root steps) =
          bind r ok.kept (is.found_alike r A B ok locals tree root steps (indices_alike (type_of locals root) steps)) (λ f.
          bind r ok.kept (is.counted_alike r A B ok f) (λ n. pure_alike r ok.kept (v.Number (pos n))))
      value_alike (Lambda at captures params result body) =
          bind r ok.kept (is.captured_alike r A B ok locals captures) (λ vs.
          bind r ok.kept (known_alike r ok.kept Kinds (body_number (bodies_of tree) body)) (λ f. pure_alike r ok.kept (Closure f vs)))
      value_alike (Prefix at op x) = bind r ok.kept (value_alike x) (λ w. is.applied_alike r A B ok at (unary op w))
      value_alike (Chain at first links) = bind r ok.kept (value_alike first) (chained_alike links)

      pub values_alike : (xs : CoreExprs) → Alike r (values A tree locals deeper xs) (values B tree locals deeper' xs)
      values_alike NoExprs = pure_alike r ok.kept []
      values_alike (ExprOf x rest) = bind r ok.kept (value_alike x) (λ w. bind r ok.kept (values_alike rest) (λ ws. pure_alike r ok.kept (w ∷ ws)))

      pub chained_alike : (links : CoreLinks) (w : ValueTree) → Alike r (chained A tree locals deeper links w) (chained B tree locals deeper' links w)
      chained_alike NoLinks w = pure_alike r ok.kept w
      chained_alike (LinkOf op at x rest) w =
          if_alike r ok.kept (decides op w) (pure_alike r ok.kept w)
          (bind r ok.kept (value_alike x) (λ u. bind r ok.kept (is.applied_alike r A B ok at (binary op w u)) (chained_alike rest)))

      pub indices_alike : (t : Option ValueType) (steps : CoreSteps) → Alike r (indices A tree locals deeper t steps) (indices B tree locals deeper' t steps)
      indices_alike t NoSteps = pure_alike r ok.kept []
      indices_alike t (FieldStep name rest) =
          bind r ok.kept (known_alike r ok.kept Kinds (field_at tree t name)) (λ f. bind r ok.kept (indices_alike (Some f.ty) rest) (λ ls. pure_alike r ok.kept (ToField f.number ∷ ls)))
      indices_alike t (IndexStep at x rest) =
          bind r ok.kept (value_alike x) (λ w.
          bind r ok.kept (is.number_alike r A B ok w) (λ z. bind r ok.kept (indices_alike (element_at t) rest) (λ ls. pure_alike r ok.kept (ToIndex z at ∷ ls))))

      pub place_alike : (x : CoreExpr) → AlikePlaced r (place_in A tree locals deeper x) (place_in B tree locals deeper' x)
      place_alike (Path at root steps) =
          is.placed_alike r A B ok (number_in locals root.text) (is.found_alike r A B ok locals tree root steps (indices_alike (type_of locals root) steps))
      place_alike (Number at z) = tt
      place_alike (Truth at b) = tt
      place_alike (Calls at c) = tt
      place_alike (Awaits at name) = tt
      place_alike (Array at xs) = tt
      place_alike (Filled at len x) = tt
      place_alike (Count at root steps) = tt
      place_alike (Lambda at captures params result body) = tt
      place_alike (Prefix at op x) = tt
      place_alike (Chain at first links) = tt

      pub call_alike : (c : CoreCall) → Alike r (call A tree locals deeper c) (call B tree locals deeper' c)
      call_alike (CallOf root steps at given) =
          bind r ok.kept (is.callee_alike r A B ok tree (number_in locals root.text) root steps (is.found_alike r A B ok locals tree root steps (indices_alike (type_of locals root) steps))) (λ who.
          is.call_by_alike r A B ok tree who (parts_alike given) _ _ (λ f captures body.
          args_alike given body.params (passed_captures captures) _ _ (is.entered_alike r A B ok deeper deeper' down at f body)))

      pub parts_alike : (given : CoreArgs) → Alike r (parts A tree locals deeper given) (parts B tree locals deeper' given)
      parts_alike NoArgs = pure_alike r ok.kept []
      parts_alike (ValueArg x rest) = bind r ok.kept (value_alike x) (λ w. bind r ok.kept (parts_alike rest) (λ ws. pure_alike r ok.kept (w ∷ ws)))
      parts_alike (RefArg at root steps rest) = stuck_alike r ok.kept Kinds

      pub args_alike : (given : CoreArgs) (params : List CoreParam) (ps : List Passed) (f : List Passed → Run C S Flow) (g : List Passed → Run D T Flow) → ((ps : List Passed) → Alike r (f ps) (g ps)) →
          Alike r (args A tree locals deeper given params ps f) (args B tree locals deeper' given params ps g)
      args_alike NoArgs [] ps f g go = go ps
      args_alike NoArgs (p ∷ params) ps f g go = stuck_alike r ok.kept Kinds
      args_alike (ValueArg x rest) [] ps f g go = stuck_alike r ok.kept Kinds
      args_alike (ValueArg x rest) (p ∷ params) ps f g go =
          is.pass_value_alike r A B ok p.conv (place_in A tree locals deeper x) (place_in B tree locals deeper' x) (place_alike x) (value_alike x) _ _ (λ a.
          args_alike rest params (ps ++ a ∷ []) f g go)
      args_alike (RefArg at root steps rest) [] ps f g go = stuck_alike r ok.kept Kinds
      args_alike (RefArg at root steps rest) (p ∷ params) ps f g go =
          is.pass_place_alike r A B ok p.conv (is.found_alike r A B ok locals tree root steps (indices_alike (type_of locals root) steps)) _ _ (λ a.
          args_alike rest params (ps ++ a ∷ []) f g go)

      pub child_alike : (c : CoreCall) → Alike r (child A tree locals deeper c) (child B tree locals deeper' c)
      child_alike (CallOf root steps at given) =
          bind r ok.kept (is.callee_alike r A B ok tree (number_in locals root.text) root steps (is.found_alike r A B ok locals tree root steps (indices_alike (type_of locals root) steps))) (λ who.
          is.child_by_alike r A B ok tree who _ _ (λ f captures body. own_values_alike given body.params (passed_captures captures)))

      pub own_values_alike : (given : CoreArgs) (params : List CoreParam) (ps : List Passed) → Alike r (own_values A tree locals deeper given params ps) (own_values B tree locals deeper' given params ps)
      own_values_alike NoArgs [] ps = pure_alike r ok.kept ps
      own_values_alike NoArgs (p ∷ params) ps = stuck_alike r ok.kept Kinds
      own_values_alike (ValueArg x rest) [] ps = stuck_alike r ok.kept Kinds
      own_values_alike (ValueArg x rest) (p ∷ params) ps =
          bind r ok.kept (is.own_value_alike r A B ok p.conv (place_in A tree locals deeper x) (place_in B tree locals deeper' x) (place_alike x) (value_alike x)) (λ a.
          own_values_alike rest params (ps ++ a ∷ []))
      own_values_alike (RefArg at root steps rest) params ps = stuck_alike r ok.kept Kinds

      pub block_alike : (b : CoreBlock) → Alike r (block A tree locals deeper b) (block B tree locals deeper' b)
      block_alike (BlockOf stmts end) = statements_alike stmts

      pub statements_alike : (stmts : CoreStmts) → Alike r (statements A tree locals deeper stmts) (statements B tree locals deeper' stmts)
      statements_alike NoStmts = pure_alike r ok.kept None
      statements_alike (StmtOf x rest) = bind r ok.kept (ok.pays 1 (first_token x)) (λ paid. statement_alike x _ _ (statements_alike rest))

      pub statement_alike : (x : CoreStmt) (f : Run C S Flow) (g : Run D T Flow) → Alike r f g → Alike r (statement A tree locals deeper x f) (statement B tree locals deeper' x g)
      statement_alike (Var at name t) f g go = bind r ok.kept (is.declared_alike r A B ok locals name (holes tree t)) (λ done. go)
      statement_alike (VarWith at name t x) f g go = bind r ok.kept (value_alike x) (λ w. bind r ok.kept (is.declared_alike r A B ok locals name w) (λ done. go))
      statement_alike (Let at name t x) f g go =
          is.bound_alike r A B ok locals name (place_in A tree locals deeper x) (place_in B tree locals deeper' x) (place_alike x) (value_alike x) go
      statement_alike (Inout at name t root steps) f g go =
          bind r ok.kept (is.found_alike r A B ok locals tree root steps (indices_alike (type_of locals root) steps)) (λ a.
          bind r ok.kept (is.local_alike r A B ok locals name) (λ n. ok.under Writes n a.0 f g go))
      statement_alike (Assign at root steps x) f g go =
          bind r ok.kept (value_alike x) (λ w.
          bind r ok.kept (is.found_alike r A B ok locals tree root steps (indices_alike (type_of locals root) steps)) (λ a. bind r ok.kept (ok.write a.0 w) (λ done. go)))
      statement_alike (If at branches) f g go = bind r ok.kept (choices_alike branches) (unless_alike r ok.kept go)
      statement_alike (While at test body) f g go = bind r ok.kept (is.repeated_alike r A B ok at (value_alike test) (block_alike body)) (unless_alike r ok.kept go)
      statement_alike (Return at) f g go = pure_alike r ok.kept (Some (Fields Nil))
      statement_alike (ReturnWith at x) f g go = bind r ok.kept (value_alike x) (λ w. pure_alike r ok.kept (Some w))
      statement_alike (Print at x) f g go = bind r ok.kept (value_alike x) (λ w. bind r ok.kept (ok.says (text w ++ 10 ∷ [])) (λ done. go))
      statement_alike (Task at name t word budget c) f g go =
          bind r ok.kept (value_alike budget) (λ k.
          bind r ok.kept (child_alike c) (λ what.
          bind r ok.kept (is.number_alike r A B ok k) (λ z.
          bind r ok.kept (is.local_alike r A B ok locals name) (λ h. bind r ok.kept (is.spawned_alike r A B ok deeper deeper' down h word z what) (λ done. go)))))
      statement_alike (AwaitsAlone at name) f g go = bind r ok.kept (is.local_alike r A B ok locals name) (λ h. bind r ok.kept (ok.await h) (λ w. go))
      statement_alike (CallsAlone at c) f g go = bind r ok.kept (call_alike c) (λ w. go)
      statement_alike (Bare at b) f g go = bind r ok.kept (block_alike b) (unless_alike r ok.kept go)

      pub choices_alike : (branches : CoreBranches) → Alike r (choices A tree locals deeper branches) (choices B tree locals deeper' branches)
      choices_alike NoElse = pure_alike r ok.kept None
      choices_alike (Else b) = block_alike b
      choices_alike (BranchOf test body rest) = is.chosen_alike r A B ok (value_alike test) (block_alike body) (choices_alike rest)

  module _ (deeper : Deeper C S) (deeper' : Deeper D T) (down : AlikeDeeper r deeper deeper') where
    body_alike : (b : Option CoreBody) → Alike r (body_by A tree deeper b) (body_by B tree deeper' b)
    body_alike None = stuck_alike r ok.kept Kinds
    body_alike (Some b) = counted_alike r ok.kept (length (locals_of b)) (bind r ok.kept (block_alike (locals_of b) deeper deeper' down b.block) (is.ended_alike r A B ok b.result))

    bodies_alike : (f : ℕ) → Alike r (bodies_run A tree deeper f) (bodies_run B tree deeper' f)
    bodies_alike f = body_alike (slice_get (bodies_of tree) f)

  activations_alike : (n : ℕ) → AlikeDeeper r (activations A tree n) (activations B tree n)
  activations_alike zero = tt
  activations_alike (suc n) = bodies_alike (activations A tree n) (activations B tree n) (activations_alike n)

  -- a body, however many activations may be entered from it
  pub related_runs : (n f : ℕ) → Alike r (bodies_run A tree (activations A tree n) f) (bodies_run B tree (activations B tree n) f)
  related_runs n f = bodies_alike (activations A tree n) (activations B tree n) (activations_alike n) f
