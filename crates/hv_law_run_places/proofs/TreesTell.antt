-- A program's run ends only at places of which P holds, where it holds of all places of the program.
use Rattle.std.proofs.Common.{ℕ, zero, suc, pos, List, [], ◌∷◌, ◌++◌, length, Option, Some, None}
use Rattle.std.specs.List.{slice_get}
use Rattle.hv_tree.specs.declared.place.Place.{Place}
use Rattle.hv_tree.specs.Core.{Core, CoreParam, CoreExpr, Number, Truth, Path, Calls, Awaits, Array, Filled, Count, Lambda, Prefix, Chain, CoreExprs, NoExprs, ExprOf, CoreLinks, NoLinks, LinkOf, CoreSteps, NoSteps, FieldStep, IndexStep, CoreCall, CallOf, CoreArgs, NoArgs, ValueArg, RefArg, CoreBlock, BlockOf, CoreStmts, NoStmts, StmtOf, CoreBranches, NoElse, Else, BranchOf, CoreStmt, Var, VarWith, Let, Inout, Assign, If, While, Return, ReturnWith, Print, Task, AwaitsAlone, CallsAlone, Bare}
use Rattle.hv_decls.specs.Types.{ValueType}
use Rattle.hv_decls.specs.Locals.{Local, CoreBody, locals_of, number_in}
use Rattle.hv_decls.specs.Sites.{bodies_of}
use Rattle.hv_decls.specs.Statics.{field_at, element_at}
use Rattle.hv_value.specs.ValueTree.{ValueTree, Fields, Elements, Closure, Nil, row}
use Rattle.hv_value.specs.ValueTree as v
use Rattle.hv_value.specs.Texts.{text}
use Rattle.hv_value.specs.Walk.{Link, ToField, ToIndex}
use Rattle.hv_sem_copying.specs.declared.end.Cause.TheVariants.{Kinds}
use Rattle.hv_sem_copying.specs.Run.{Run, Flow}
use Rattle.hv_sem_copying.specs.Ops.{Writes, Passed, Ops}
use Rattle.hv_value.specs.Operators.{binary, unary, decides}
use Rattle.hv_sem_copying.specs.Places.{holes, body_number, type_of}
use Rattle.hv_sem_copying.specs.Calls.{Deeper, passed_captures}
use Rattle.hv_sem_copying.specs.Blocks.{first_token}
use Rattle.hv_sem_copying.specs.Evaluate.{value, values, chained, indices, place_in, call, parts, args, child, own_values, block, statements, statement, choices, body_by, bodies_run, activations}
use Rattle.hv_law_places.specs.Places.{in_ty, in_result, in_names, in_params, in_expr, in_exprs, in_links, in_steps, in_call, in_args, in_block, in_stmts, in_branches, in_stmt, places_of}
use Rattle.hv_lemmas.proofs.Each.{Each, each_split}
use Rattle.hv_law_places.proofs.SitesTell.{BodyTells, bodies_tell}
use Rattle.hv_law_run_places.proofs.Tells.{Tells, Any, LinkTells, Telling, bind, next, pure_tells, stuck_tells, known_tells, if_tells, pay_tells, say_tells, counted_tells, unless_tells}
use Rattle.hv_law_run_places.proofs.PartsTell as is
use Rattle.hv_law_run_places.proofs.PartsTell.{PlacedTells, DeeperTells}

module _ {C S : Type 0} (P : Place → Type 0) (o : Ops C S) (ok : Telling P o) (tree : Core) where
  abbrev Goes : {X : Type 0} → Run C S X → Type 0
  Goes p = Tells P Any p

  first_tells : (x : CoreStmt) → Each P (in_stmt x) → P (first_token x)
  first_tells (Var at name t) h = h.0
  first_tells (VarWith at name t x) h = h.0
  first_tells (Let at name t x) h = h.0
  first_tells (Inout at name t root steps) h = h.0
  first_tells (Assign at root steps x) h = h.0
  first_tells (If at branches) h = h.0
  first_tells (While at test body) h = h.0
  first_tells (Return at) h = h.0
  first_tells (ReturnWith at x) h = h.0
  first_tells (Print at x) h = h.0
  first_tells (Task at name t spawn budget c) h = h.0
  first_tells (AwaitsAlone at name) h = h.0
  first_tells (CallsAlone at c) h = h.0
  first_tells (Bare at b) h = h.0

  module _ (locals : List Local) (deeper : Deeper C S) (down : DeeperTells P deeper) where
    mutual
      value_tells : (x : CoreExpr) → Each P (in_expr x) → Goes (value o tree locals deeper x)
      value_tells (Number at z) h = pure_tells (v.Number z) tt
      value_tells (Truth at b) h = pure_tells (v.Truth b) tt
      value_tells (Path at root steps) h =
          is.named_tells P o ok tree (number_in locals root.text) root steps h.1.0 (is.found_tells P o ok locals tree root steps (indices_tell (type_of locals root) steps h.1.1))
      value_tells (Calls at c) h = call_tells c h.1
      value_tells (Awaits at name) h = next (is.local_tells P o ok locals name) ok.await
      value_tells (Array at xs) h = next (values_tell xs h.1) (λ vs. pure_tells (Elements (row vs)) tt)
      value_tells (Filled at len x) h =
          let q = each_split P (in_expr len) (in_expr x) h.1 in
          next (value_tells len q.0) (λ n. next (value_tells x q.1) (λ w. next (is.number_tells P o ok n) (is.filled_tells P o ok at h.0 w)))
      value_tells (Count at root steps) h =
          next (is.found_tells P o ok locals tree root steps (indices_tell (type_of locals root) steps h.1.1)) (λ f. next (is.counted_tells P o ok f) (λ n. pure_tells (v.Number (pos n)) tt))
      value_tells (Lambda at captures params result body) h =
          let q = each_split P (in_names captures) (in_params params ++ (in_result result ++ in_block body)) h.1 in
          next (is.captured_tells P o ok locals captures q.0) (λ vs. next (known_tells Kinds (body_number (bodies_of tree) body)) (λ f. pure_tells (Closure f vs) tt))
      value_tells (Prefix at op x) h = next (value_tells x h.1) (λ w. is.applied_tells P o ok at h.0 (unary op w))
      value_tells (Chain at first links) h =
          let q = each_split P (in_expr first) (in_links links) h.1 in next (value_tells first q.0) (chained_tells links q.1)

      values_tell : (xs : CoreExprs) → Each P (in_exprs xs) → Goes (values o tree locals deeper xs)
      values_tell NoExprs h = pure_tells [] tt
      values_tell (ExprOf x rest) h =
          let q = each_split P (in_expr x) (in_exprs rest) h in next (value_tells x q.0) (λ w. next (values_tell rest q.1) (λ ws. pure_tells (w ∷ ws) tt))

      chained_tells : (links : CoreLinks) → Each P (in_links links) → (w : ValueTree) → Goes (chained o tree locals deeper links w)
      chained_tells NoLinks h w = pure_tells w tt
      chained_tells (LinkOf op at x rest) h w =
          let q = each_split P (in_expr x) (in_links rest) h.1 in
          if_tells (decides op w) (pure_tells w tt) (next (value_tells x q.0) (λ u. next (is.applied_tells P o ok at h.0 (binary op w u)) (chained_tells rest q.1)))

      indices_tell : (t : Option ValueType) (steps : CoreSteps) → Each P (in_steps steps) → Tells P (Each (LinkTells P)) (indices o tree locals deeper t steps)
      indices_tell t NoSteps h = pure_tells [] tt
      indices_tell t (FieldStep name rest) h =
          next (known_tells Kinds (field_at tree t name)) (λ f. bind {Q = Each (LinkTells P)} (indices_tell (Some f.ty) rest h.1) (λ ls k. pure_tells (ToField f.number ∷ ls) (tt, k)))
      indices_tell t (IndexStep at x rest) h =
          let q = each_split P (in_expr x) (in_steps rest) h.1 in
          next (value_tells x q.0) (λ w. next (is.number_tells P o ok w) (λ z.
          bind {Q = Each (LinkTells P)} (indices_tell (element_at t) rest q.1) (λ ls k. pure_tells (ToIndex z at ∷ ls) (h.0, k))))

      place_tells : (x : CoreExpr) → Each P (in_expr x) → PlacedTells P (place_in o tree locals deeper x)
      place_tells (Path at root steps) h =
          is.placed_tells P o ok (number_in locals root.text) (is.found_tells P o ok locals tree root steps (indices_tell (type_of locals root) steps h.1.1))
      place_tells (Number at z) h = tt
      place_tells (Truth at b) h = tt
      place_tells (Calls at c) h = tt
      place_tells (Awaits at name) h = tt
      place_tells (Array at xs) h = tt
      place_tells (Filled at len x) h = tt
      place_tells (Count at root steps) h = tt
      place_tells (Lambda at captures params result body) h = tt
      place_tells (Prefix at op x) h = tt
      place_tells (Chain at first links) h = tt

      call_tells : (c : CoreCall) → Each P (in_call c) → Goes (call o tree locals deeper c)
      call_tells (CallOf root steps at given) h =
          let q = each_split P (in_steps steps) (at ∷ in_args given) h.1 in
          next (is.callee_tells P o ok tree (number_in locals root.text) root steps h.0 (is.found_tells P o ok locals tree root steps (indices_tell (type_of locals root) steps q.0))) (λ who.
          is.call_by_tells P o ok tree who (parts_tell given q.1.1) _ (λ f captures body.
          args_tell given q.1.1 body.params (passed_captures captures) _ (is.entered_tells P o ok deeper down at q.1.0 f body)))

      parts_tell : (given : CoreArgs) → Each P (in_args given) → Goes (parts o tree locals deeper given)
      parts_tell NoArgs h = pure_tells [] tt
      parts_tell (ValueArg x rest) h =
          let q = each_split P (in_expr x) (in_args rest) h in next (value_tells x q.0) (λ w. next (parts_tell rest q.1) (λ ws. pure_tells (w ∷ ws) tt))
      parts_tell (RefArg at root steps rest) h = stuck_tells Kinds

      args_tell : (given : CoreArgs) → Each P (in_args given) → (params : List CoreParam) (ps : List Passed) (go : List Passed → Run C S Flow) → ((ps : List Passed) → Goes (go ps)) →
          Goes (args o tree locals deeper given params ps go)
      args_tell NoArgs h [] ps go g = g ps
      args_tell NoArgs h (p ∷ params) ps go g = stuck_tells Kinds
      args_tell (ValueArg x rest) h [] ps go g = stuck_tells Kinds
      args_tell (ValueArg x rest) h (p ∷ params) ps go g =
          let q = each_split P (in_expr x) (in_args rest) h in
          is.pass_value_tells P o ok p.conv (place_in o tree locals deeper x) (place_tells x q.0) (value_tells x q.0) _ (λ a. args_tell rest q.1 params (ps ++ a ∷ []) go g)
      args_tell (RefArg at root steps rest) h [] ps go g = stuck_tells Kinds
      args_tell (RefArg at root steps rest) h (p ∷ params) ps go g =
          let q = each_split P (in_steps steps) (in_args rest) h.1.1 in
          is.pass_place_tells P o ok p.conv (is.found_tells P o ok locals tree root steps (indices_tell (type_of locals root) steps q.0)) _ (λ a.
          args_tell rest q.1 params (ps ++ a ∷ []) go g)

      child_tells : (c : CoreCall) → Each P (in_call c) → Goes (child o tree locals deeper c)
      child_tells (CallOf root steps at given) h =
          let q = each_split P (in_steps steps) (at ∷ in_args given) h.1 in
          next (is.callee_tells P o ok tree (number_in locals root.text) root steps h.0 (is.found_tells P o ok locals tree root steps (indices_tell (type_of locals root) steps q.0))) (λ who.
          is.child_by_tells P o ok tree who _ (λ f captures body. own_values_tell given q.1.1 body.params (passed_captures captures)))

      own_values_tell : (given : CoreArgs) → Each P (in_args given) → (params : List CoreParam) (ps : List Passed) → Goes (own_values o tree locals deeper given params ps)
      own_values_tell NoArgs h [] ps = pure_tells ps tt
      own_values_tell NoArgs h (p ∷ params) ps = stuck_tells Kinds
      own_values_tell (ValueArg x rest) h [] ps = stuck_tells Kinds
      own_values_tell (ValueArg x rest) h (p ∷ params) ps =
          let q = each_split P (in_expr x) (in_args rest) h in
          next (is.own_value_tells P o ok p.conv (place_in o tree locals deeper x) (place_tells x q.0) (value_tells x q.0)) (λ a. own_values_tell rest q.1 params (ps ++ a ∷ []))
      own_values_tell (RefArg at root steps rest) h params ps = stuck_tells Kinds

      block_tells : (b : CoreBlock) → Each P (in_block b) → Goes (block o tree locals deeper b)
      block_tells (BlockOf stmts end) h = statements_tell stmts (each_split P (in_stmts stmts) (end ∷ []) h).0

      statements_tell : (stmts : CoreStmts) → Each P (in_stmts stmts) → Goes (statements o tree locals deeper stmts)
      statements_tell NoStmts h = pure_tells None tt
      statements_tell (StmtOf x rest) h =
          let q = each_split P (in_stmt x) (in_stmts rest) h in
          next (pay_tells 1 (first_token x) (first_tells x q.0)) (λ paid. statement_tells x q.0 _ (statements_tell rest q.1))

      statement_tells : (x : CoreStmt) → Each P (in_stmt x) → (go : Run C S Flow) → Goes go → Goes (statement o tree locals deeper x go)
      statement_tells (Var at name t) h go g = next (is.declared_tells P o ok locals name (holes tree t)) (λ done. g)
      statement_tells (VarWith at name t x) h go g =
          next (value_tells x (each_split P (in_ty t) (in_expr x) h.1.1).1) (λ w. next (is.declared_tells P o ok locals name w) (λ done. g))
      statement_tells (Let at name t x) h go g =
          let q = each_split P (in_ty t) (in_expr x) h.1.1 in
          is.bound_tells P o ok locals name (place_in o tree locals deeper x) (place_tells x q.1) (value_tells x q.1) go g
      statement_tells (Inout at name t root steps) h go g =
          let q = each_split P (in_ty t) (root.place ∷ in_steps steps) h.1.1 in
          next (is.found_tells P o ok locals tree root steps (indices_tell (type_of locals root) steps q.1.1)) (λ a. next (is.local_tells P o ok locals name) (λ r. ok.under Writes r a.0 go g))
      statement_tells (Assign at root steps x) h go g =
          let q = each_split P (in_steps steps) (in_expr x) h.1.1 in
          next (value_tells x q.1) (λ w. next (is.found_tells P o ok locals tree root steps (indices_tell (type_of locals root) steps q.0)) (λ a. next (ok.write a.0 w) (λ done. g)))
      statement_tells (If at branches) h go g = next (choices_tell branches h.1) (unless_tells g)
      statement_tells (While at test body) h go g =
          let q = each_split P (in_expr test) (in_block body) h.1 in
          next (is.repeated_tells P o ok at h.0 (value_tells test q.0) (block_tells body q.1)) (unless_tells g)
      statement_tells (Return at) h go g = pure_tells (Some (Fields Nil)) tt
      statement_tells (ReturnWith at x) h go g = next (value_tells x h.1) (λ w. pure_tells (Some w) tt)
      statement_tells (Print at x) h go g = next (value_tells x h.1) (λ w. next (say_tells (text w ++ 10 ∷ [])) (λ done. g))
      statement_tells (Task at name t word budget c) h go g =
          let q = each_split P (in_result t) (word ∷ (in_expr budget ++ in_call c)) h.1.1 in
          let r = each_split P (in_expr budget) (in_call c) q.1.1 in
          next (value_tells budget r.0) (λ k.
          next (child_tells c r.1) (λ what.
          next (is.number_tells P o ok k) (λ z.
          next (is.local_tells P o ok locals name) (λ h. next (is.spawned_tells P o ok deeper down h word q.1.0 z what) (λ done. g)))))
      statement_tells (AwaitsAlone at name) h go g = next (is.local_tells P o ok locals name) (λ h. next (ok.await h) (λ w. g))
      statement_tells (CallsAlone at c) h go g = next (call_tells c h.1) (λ w. g)
      statement_tells (Bare at b) h go g = next (block_tells b h.1) (unless_tells g)

      choices_tell : (branches : CoreBranches) → Each P (in_branches branches) → Goes (choices o tree locals deeper branches)
      choices_tell NoElse h = pure_tells None tt
      choices_tell (Else b) h = block_tells b h
      choices_tell (BranchOf test body rest) h =
          let q = each_split P (in_expr test) (in_block body ++ in_branches rest) h in
          let r = each_split P (in_block body) (in_branches rest) q.1 in
          is.chosen_tells P o ok (value_tells test q.0) (block_tells body r.0) (choices_tell rest r.1)

  -- ---- bodies

  abbrev IfBody : Option CoreBody → Type 0
  IfBody None = Unit {0}
  IfBody (Some b) = BodyTells P b

  got_tells : (bodies : List CoreBody) (f : ℕ) → Each (BodyTells P) bodies → IfBody (slice_get bodies f)
  got_tells [] f h = tt
  got_tells (b ∷ bodies) zero h = h.0
  got_tells (b ∷ bodies) (suc f) h = got_tells bodies f h.1

  body_tells : (deeper : Deeper C S) → DeeperTells P deeper → (b : Option CoreBody) → IfBody b → Goes (body_by o tree deeper b)
  body_tells deeper down None h = stuck_tells Kinds
  body_tells deeper down (Some b) h =
      counted_tells (length (locals_of b)) (next (block_tells (locals_of b) deeper down b.block h.1) (is.ended_tells P o ok b.result))

  module _ (all : Each P (places_of tree)) where
    run_tells : (deeper : Deeper C S) → DeeperTells P deeper → (f : ℕ) → Goes (bodies_run o tree deeper f)
    run_tells deeper down f = body_tells deeper down (slice_get (bodies_of tree) f) (got_tells (bodies_of tree) f (bodies_tell P tree all))

    activations_tell : (n : ℕ) → DeeperTells P (activations o tree n)
    activations_tell zero = tt
    activations_tell (suc n) = run_tells (activations o tree n) (activations_tell n)

    -- a body, however many activations may be entered from it
    pub runs_tell : (n f : ℕ) → Goes (bodies_run o tree (activations o tree n) f)
    runs_tell n f = run_tells (activations o tree n) (activations_tell n) f
