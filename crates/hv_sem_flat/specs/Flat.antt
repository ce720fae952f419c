-- What each part of a program does, with the open accesses of a block or a call in a list.
use Rattle.std.specs.Prelude.{ℕ, zero, suc, if◌then◌else◌, List, [], ◌∷◌, ◌++◌, length, Option, Some, None}
use Rattle.std.specs.List.{slice_get}
use Rattle.hv_tree.specs.declared.place.Place.{Place}
use Rattle.hv_tree.specs.Core.{Core, CoreParam, CoreExpr, Number, Truth, Path, Calls, Awaits, Array, Filled, Count, Lambda, Prefix, Chain, CoreExprs, NoExprs, ExprOf, CoreLinks, NoLinks, LinkOf, CoreSteps, NoSteps, FieldStep, IndexStep, CoreCall, CallOf, CoreArgs, NoArgs, ValueArg, RefArg, CoreBlock, BlockOf, CoreStmts, NoStmts, StmtOf, CoreBranches, NoElse, Else, BranchOf, CoreStmt, Var, VarWith, Let, Inout, Assign, If, While, Return, ReturnWith, Print, Task, AwaitsAlone, CallsAlone, Bare}
use Rattle.hv_decls.specs.Types.{ValueType}
use Rattle.hv_decls.specs.Locals.{Local, CoreBody, locals_of, number_in}
use Rattle.hv_decls.specs.Sites.{bodies_of}
use Rattle.hv_decls.specs.Statics.{field_at, element_at}
use Rattle.hv_value.specs.ValueTree.{ValueTree, Fields, Elements, Closure, Nil, row}
use Rattle.hv_value.specs.ValueTree as v
use Rattle.hv_value.specs.Texts.{text}
use Rattle.hv_value.specs.Walk.{Link, ToField, ToIndex}
use Rattle.hv_sem_copying.specs.declared.end.Cause.TheVariants.{Kinds}
use Rattle.hv_sem_copying.specs.Run.{Flow, ◌>>=◌, pure, stuck, known, pay, say, counted_from}
use Rattle.hv_sem_copying.specs.Ops.{Passed, Writes}
use Rattle.hv_sem_copying.specs.Operations.{number, applied, filled_with}
use Rattle.hv_value.specs.Operators.{binary, unary, decides}
use Rattle.hv_sem_copying.specs.Copying.{Locals, copying}
use Rattle.hv_sem_copying.specs.Places.{holes, body_number, type_of, local}
use Rattle.hv_sem_copying.specs.Calls.{Deeper, ended, passed_captures, entered, call_by, Child, child_by, spawned}
use Rattle.hv_sem_copying.specs.Blocks.{first_token, chosen, repeated}
use Rattle.hv_sem_copying.specs.Evaluate.{if_local}
use Rattle.hv_sem_flat.specs.Accesses.{Plain, Spot, put_at, Access, shut}
use Rattle.hv_sem_flat.specs.Parts.{counted, value_given, place_given, own_value, Given, taken, counting, Went, Leaves, Goes, flowed, went, opening, found, named, callee, captured_from, declared, bound}

module _ (tree : Core) (locals : List Local) (deeper : Deeper (Unit {0}) Locals) where
  abbrev mutual
    pub value : CoreExpr → Plain ValueTree
    value (Number at z) = pure (v.Number z)
    value (Truth at b) = pure (v.Truth b)
    value (Path at root steps) = named tree (number_in locals root.text) root steps (found locals root (links_from [] (type_of locals root) steps))
    value (Calls at c) = call c
    value (Awaits at name) = local locals name >>= copying.await
    value (Array at xs) = values_from [] xs >>= (λ vs. pure (Elements (row vs)))
    value (Filled at len x) = value len >>= (λ n. value x >>= (λ w. number n >>= filled_with at w))
    value (Count at root steps) = counted (found locals root (links_from [] (type_of locals root) steps))
    value (Lambda at captures params result body) =
        captured_from locals [] captures >>= (λ vs. known Kinds (body_number (bodies_of tree) body) >>= (λ f. pure (Closure f (row vs))))
    value (Prefix at op x) = value x >>= (λ w. applied at (unary op w))
    value (Chain at first links) = value first >>= chained links

    -- those so far, and then these in order
    pub values_from : List ValueTree → CoreExprs → Plain (List ValueTree)
    values_from vs NoExprs = pure vs
    values_from vs (ExprOf x rest) = value x >>= (λ w. values_from (vs ++ w ∷ []) rest)

    pub chained : CoreLinks → ValueTree → Plain ValueTree
    chained NoLinks w = pure w
    chained (LinkOf op at x rest) w =
        if decides op w then pure w else (value x >>= (λ u. applied at (binary op w u) >>= chained rest))

    -- the steps so far, and then those behind something of this type
    pub links_from : List (Link Place) → Option ValueType → CoreSteps → Plain (List (Link Place))
    links_from ls t NoSteps = pure ls
    links_from ls t (FieldStep name rest) = known Kinds (field_at tree t name) >>= (λ f. links_from (ls ++ ToField f.number ∷ []) (Some f.ty) rest)
    links_from ls t (IndexStep at x rest) = value x >>= (λ w. number w >>= (λ z. links_from (ls ++ ToIndex z at ∷ []) (element_at t) rest))

    pub place_in : CoreExpr → Option (Plain Spot)
    place_in (Path at root steps) = if_local (number_in locals root.text) (found locals root (links_from [] (type_of locals root) steps))
    place_in _ = None

    -- a construction, or a body, behind which the accesses of its arguments close
    pub call : CoreCall → Plain ValueTree
    call (CallOf root steps at given) =
        callee tree (number_in locals root.text) root steps (found locals root (links_from [] (type_of locals root) steps)) >>= (λ who.
        call_by tree who (parts_from [] given) (λ f captures body.
        counting (λ m. args_from given body.params m (passed_captures captures) []) >>= (λ r. entered copying deeper at f body r.0 >>= shut r.1)))

    pub parts_from : List ValueTree → CoreArgs → Plain (List ValueTree)
    parts_from vs NoArgs = pure vs
    parts_from vs (ValueArg x rest) = value x >>= (λ w. parts_from (vs ++ w ∷ []) rest)
    parts_from vs (RefArg at root steps rest) = stuck Kinds

    -- the arguments so far, and then these in order, where m references are in use
    pub args_from : CoreArgs → List CoreParam → ℕ → List Passed → List Access → Plain Given
    args_from NoArgs [] m ps opens = pure (ps, opens)
    args_from NoArgs (p ∷ params) m ps opens = stuck Kinds
    args_from (ValueArg x rest) [] m ps opens = stuck Kinds
    args_from (ValueArg x rest) (p ∷ params) m ps opens = counted_from m (value_given p.conv (place_in x) (value x)) >>= (λ g. taken g m ps opens (args_from rest params))
    args_from (RefArg at root steps rest) [] m ps opens = stuck Kinds
    args_from (RefArg at root steps rest) (p ∷ params) m ps opens = counted_from m (place_given p.conv (found locals root (links_from [] (type_of locals root) steps))) >>= (λ g. taken g m ps opens (args_from rest params))

    -- the callee and the arguments of a spawn
    pub child : CoreCall → Plain Child
    child (CallOf root steps at given) =
        callee tree (number_in locals root.text) root steps (found locals root (links_from [] (type_of locals root) steps)) >>= (λ who.
        child_by tree who (λ f captures body. own_values given body.params (passed_captures captures)))

    pub own_values : CoreArgs → List CoreParam → List Passed → Plain (List Passed)
    own_values NoArgs [] ps = pure ps
    own_values NoArgs (p ∷ params) ps = stuck Kinds
    own_values (ValueArg x rest) [] ps = stuck Kinds
    own_values (ValueArg x rest) (p ∷ params) ps = own_value p.conv (place_in x) (value x) >>= (λ a. own_values rest params (ps ++ a ∷ []))
    own_values (RefArg at root steps rest) params ps = stuck Kinds

    -- the accesses of a block close at its end, also where a Return leaves it
    pub block : CoreBlock → Plain Flow
    block (BlockOf stmts end) = statements stmts [] >>= (λ r. shut r.1 r.0)

    pub statements : CoreStmts → List Access → Plain (Flow × List Access)
    statements NoStmts opens = pure (None, opens)
    statements (StmtOf x rest) opens = pay 1 (first_token x) >>= (λ paid. statement x >>= (λ w. went w opens (statements rest)))

    pub statement : CoreStmt → Plain Went
    statement (Var at name t) = declared locals name (holes tree t)
    statement (VarWith at name t x) = value x >>= (λ w. declared locals name w)
    statement (Let at name t x) = bound locals name (place_in x) (value x)
    statement (Inout at name t root steps) = found locals root (links_from [] (type_of locals root) steps) >>= (λ p. local locals name >>= (λ r. opening Writes r p))
    statement (Assign at root steps x) = value x >>= (λ w. found locals root (links_from [] (type_of locals root) steps) >>= (λ p. put_at p w >>= (λ done. pure Goes)))
    statement (If at branches) = choices branches >>= flowed
    statement (While at test body) = repeated at (value test) (block body) >>= flowed
    statement (Return at) = pure (Leaves (Fields Nil))
    statement (ReturnWith at x) = value x >>= (λ w. pure (Leaves w))
    statement (Print at x) = value x >>= (λ w. say (text w ++ 10 ∷ []) >>= (λ done. pure Goes))
    statement (Task at name t word budget c) =
        value budget >>= (λ k. child c >>= (λ what. number k >>= (λ z. local locals name >>= (λ h. spawned copying deeper h word z what >>= (λ done. pure Goes)))))
    statement (AwaitsAlone at name) = local locals name >>= (λ h. copying.await h >>= (λ w. pure Goes))
    statement (CallsAlone at c) = call c >>= (λ w. pure Goes)
    statement (Bare at b) = block b >>= flowed

    pub choices : CoreBranches → Plain Flow
    choices NoElse = pure None
    choices (Else b) = block b
    choices (BranchOf test body rest) = chosen (value test) (block body) (choices rest)

-- ---- bodies

module _ (tree : Core) where
  abbrev pub body_run : Deeper (Unit {0}) Locals → CoreBody → Plain Flow
  body_run deeper body = counted_from (length (locals_of body)) (block tree (locals_of body) deeper body.block >>= ended body.result)

  abbrev pub body_by : Deeper (Unit {0}) Locals → Option CoreBody → Plain Flow
  body_by deeper None = stuck Kinds
  body_by deeper (Some body) = body_run deeper body

  abbrev pub bodies_run : Deeper (Unit {0}) Locals → ℕ → Plain Flow
  bodies_run deeper f = body_by deeper (slice_get (bodies_of tree) f)

  -- what runs a body where so many further activations may be entered, if any
  abbrev pub activations : ℕ → Deeper (Unit {0}) Locals
  activations zero = None
  activations (suc n) = Some (bodies_run (activations n))
