-- A program violates a rule on events only at a place of the program.
use Rattle.std.proofs.Common.{◌≡◌, ◌⊎◌, inl, inr, ℕ, suc, Bool, true, false, if◌then◌else◌, List, [], ◌∷◌, ◌++◌, length, Option, Some, None, Contains, sym, subst}
use Rattle.hv_tree.specs.declared.place.Place.{Place}
use Rattle.hv_tree.specs.declared.types.Name.{Name}
use Rattle.hv_tree.specs.declared.types.Conv.{Conv}
use Rattle.hv_tree.specs.declared.types.Conv.TheVariants as conv
use Rattle.hv_tree.specs.declared.ast.Operator.{Operator}
use Rattle.hv_tree.specs.declared.refusal.Rule.{Rule}
use Rattle.hv_tree.specs.Core.{Core, CoreExpr, Number, Truth, Path, Calls, Awaits, Array, Filled, Count, Lambda, Prefix, Chain, CoreExprs, NoExprs, ExprOf, CoreLinks, NoLinks, LinkOf, CoreSteps, NoSteps, FieldStep, IndexStep, CoreCall, CallOf, CoreArgs, NoArgs, ValueArg, RefArg, CoreBlock, BlockOf, CoreStmts, NoStmts, StmtOf, CoreBranches, NoElse, Else, BranchOf, CoreStmt, Var, VarWith, Let, Inout, Assign, If, While, Return, ReturnWith, Print, Task, AwaitsAlone, CallsAlone, Bare, end_of, stmts_in}
use Rattle.hv_decls.specs.declared.path.StaticPath.{StaticPath}
use Rattle.hv_rules.specs.declared.event.FlowEvent.{FlowEvent}
use Rattle.hv_rules.specs.declared.event.FlowEvent.TheVariants as event
use Rattle.hv_decls.specs.Locals.{LocalKind, Captured, Passed, VarBound, LetBound, InoutBound, Handle, Local, CoreBody, entry_locals, locals_of, number_in, in_block as declared_in_block}
use Rattle.hv_decls.specs.Sites.{Part, ExprPart, CallPart, PlacePart, StmtPart, TestPart, Scope, Site, sites_of, bodies_of}
use Rattle.hv_rules.specs.Flow.{Flow, Skip, Do, Stop, Then, Either, Loop, Turns, none, more, Ends, Leaves, IsWhole, IsTrace}
use Rattle.hv_rules.specs.Events.{Mark, Events, Doing, uses, inits, declaring, declared, Callee, next_conv, other_convs, Way, ByCall, BySpawn, given, lent, with_close, is_short, linked, opens_place, is_local, on_root, on_handle, awaited, captured, callee_of, expr_events, part_events, link_events, index_events, call_events, arg_events, value_events, place_events, Around, entered, behind, behind_block, return_at, scope_end, stmt_events, branch_events, block_events, stmts_events, entry_event, entry_events, body_around, body_end, body_events}
use Rattle.hv_rules.specs.Rules.{IsViolatedIn, TakesChange, SpawnsChange, ViolatesS3, IsViolatedByEvents, in_body, at_task}
use Rattle.hv_law_places.specs.Places.{in_ty, in_result, in_names, in_params, in_expr, in_exprs, in_links, in_steps, in_call, in_args, in_block, in_stmts, in_branches, in_stmt, places_of, IsIn}
use Rattle.hv_lemmas.proofs.Each.{Each, each_split, each_join, each_at, each_contained}
use Rattle.hv_law_places.proofs.SitesTell.{PartTells, SiteTells, LocalTells, BodyTells, bodies_tell, sites_tell}

-- ---- flows

-- Q holds of each event
abbrev pub InFlow : {E : Type 0} → (E → Type 0) → Flow E → Type 0
InFlow Q Skip = Unit {0}
InFlow Q (Do e) = Q e
InFlow Q (Stop e) = Q e
InFlow Q (Then a b) = InFlow Q a × InFlow Q b
InFlow Q (Either a b) = InFlow Q a × InFlow Q b
InFlow Q (Loop a) = InFlow Q a

turns_tell : {E : Type 0} (Q : E → Type 0) (Turn : List E → Type 0) (es : List E) → ((xs : List E) → Turn xs → Each Q xs) → Turns Turn es → Each Q es
turns_tell Q Turn es h (none e) = subst (Each Q) (sym e) tt
turns_tell Q Turn es h (more xs ys t u e) = subst (Each Q) (sym e) (each_join Q xs ys (h xs t) (turns_tell Q Turn ys h u))

ends_tell : {E : Type 0} (Q : E → Type 0) (f : Flow E) (es : List E) → InFlow Q f → Ends f es → Each Q es
ends_tell Q Skip es h e = subst (Each Q) (sym e) tt
ends_tell Q (Do x) es h e = subst (Each Q) (sym e) (h, tt)
ends_tell Q (Stop x) es h e = absurd e
ends_tell Q (Then a b) es h (xs, ys, i, j, e) = subst (Each Q) (sym e) (each_join Q xs ys (ends_tell Q a xs h.0 i) (ends_tell Q b ys h.1 j))
ends_tell Q (Either a b) es h (inl e) = ends_tell Q a es h.0 e
ends_tell Q (Either a b) es h (inr e) = ends_tell Q b es h.1 e
ends_tell Q (Loop a) es h e = turns_tell Q (Ends a) es (λ xs i. ends_tell Q a xs h i) e

leaves_tell : {E : Type 0} (Q : E → Type 0) (f : Flow E) (es : List E) → InFlow Q f → Leaves f es → Each Q es
leaves_tell Q Skip es h e = absurd e
leaves_tell Q (Do x) es h e = absurd e
leaves_tell Q (Stop x) es h e = subst (Each Q) (sym e) (h, tt)
leaves_tell Q (Then a b) es h (inl e) = leaves_tell Q a es h.0 e
leaves_tell Q (Then a b) es h (inr (xs, ys, i, j, e)) = subst (Each Q) (sym e) (each_join Q xs ys (ends_tell Q a xs h.0 i) (leaves_tell Q b ys h.1 j))
leaves_tell Q (Either a b) es h (inl e) = leaves_tell Q a es h.0 e
leaves_tell Q (Either a b) es h (inr e) = leaves_tell Q b es h.1 e
leaves_tell Q (Loop a) es h (xs, ys, i, j, e) = subst (Each Q) (sym e) (each_join Q xs ys (turns_tell Q (Ends a) xs (λ zs i. ends_tell Q a zs h i) i) (leaves_tell Q a ys h j))

whole_tells : {E : Type 0} (Q : E → Type 0) (f : Flow E) (es : List E) → InFlow Q f → IsWhole f es → Each Q es
whole_tells Q f es h (inl e) = ends_tell Q f es h e
whole_tells Q f es h (inr e) = leaves_tell Q f es h e

trace_tells : {E : Type 0} (Q : E → Type 0) (f : Flow E) (es : List E) → InFlow Q f → IsTrace f es → Each Q es
trace_tells Q f es h t = (each_split Q es t.0 (whole_tells Q f (es ++ t.0) h t.1)).0

module _ (P : Place → Type 0) where
  abbrev MarkTells : Mark → Type 0
  MarkTells m = P m.place

  abbrev EventsTell : Events → Type 0
  EventsTell f = InFlow MarkTells f

  -- what is done with a place is marked where it is said
  abbrev DoesThere : Doing → Type 0
  DoesThere does = (p : StaticPath) (at : Place) → P at → P (does p at).place

  given_there : (way : Way) (c : Option Conv) → DoesThere (given way c)
  given_there ByCall (Some conv.Let) p at h = h
  given_there BySpawn (Some conv.Let) p at h = h
  given_there ByCall (Some conv.Sink) p at h = h
  given_there BySpawn (Some conv.Sink) p at h = h
  given_there ByCall (Some conv.Inout) p at h = h
  given_there BySpawn (Some conv.Inout) p at h = h
  given_there ByCall (Some conv.Set) p at h = h
  given_there BySpawn (Some conv.Set) p at h = h
  given_there ByCall None p at h = h
  given_there BySpawn None p at h = h

  lent_there : (c : Option Conv) → DoesThere (lent c)
  lent_there (Some conv.Set) p at h = h
  lent_there (Some conv.Let) p at h = h
  lent_there (Some conv.Inout) p at h = h
  lent_there (Some conv.Sink) p at h = h
  lent_there None p at h = h

  uses_there : DoesThere uses
  uses_there p at h = h

  close_tells : (way : Way) (b : Bool) (at : Place) → P at → (others : Events) → EventsTell others → EventsTell (with_close way b at others)
  close_tells ByCall false at h others k = k
  close_tells BySpawn false at h others k = k
  close_tells ByCall true at h others k = (k, h)
  close_tells BySpawn true at h others k = (h, k)

  linked_tells : (o : Operator) (rest : Events) → EventsTell rest → EventsTell (linked o rest)
  linked_tells o rest h = by (is_short o)
    where
      by : (b : Bool) → EventsTell (if b then Either Skip rest else rest)
      by true = (tt, h)
      by false = h

  module _ (tree : Core) (locals : List Local) where
    root_tells : (does : Doing) → DoesThere does → (x : Option ℕ) (root : Name) (steps : CoreSteps) → P root.place → EventsTell (on_root tree locals does x root steps)
    root_tells does d None root steps h = tt
    root_tells does d (Some n) root steps h = d _ root.place h

    handle_tells : (e : ℕ → FlowEvent) (x : Option ℕ) (at : Place) → P at → EventsTell (on_handle tree locals e x at)
    handle_tells e None at h = tt
    handle_tells e (Some n) at h = h

    captured_tells : (names : List Name) → Each P (in_names names) → EventsTell (captured tree locals names)
    captured_tells [] h = tt
    captured_tells (name ∷ names) h = (root_tells uses uses_there (number_in locals name.text) name NoSteps h.0, captured_tells names h.1)

    mutual
      expr_tells : (does : Doing) → DoesThere does → (x : CoreExpr) → Each P (in_expr x) → EventsTell (expr_events tree locals does x)
      expr_tells does d (Number at z) h = tt
      expr_tells does d (Truth at b) h = tt
      expr_tells does d (Path at root steps) h = (steps_tell steps h.1.1, root_tells does d (number_in locals root.text) root steps h.1.0)
      expr_tells does d (Calls at call) h = call_tells ByCall call h.1
      expr_tells does d (Awaits at name) h = handle_tells event.Await (number_in locals name.text) at h.0
      expr_tells does d (Array at xs) h = exprs_tell xs h.1
      expr_tells does d (Filled at len value) h =
          let q = each_split P (in_expr len) (in_expr value) h.1 in (expr_tells uses uses_there len q.0, expr_tells uses uses_there value q.1)
      expr_tells does d (Count at root steps) h = (steps_tell steps h.1.1, root_tells uses uses_there (number_in locals root.text) root steps h.1.0)
      expr_tells does d (Lambda at captures params result body) h = captured_tells captures (each_split P (in_names captures) (in_params params ++ (in_result result ++ in_block body)) h.1).0
      expr_tells does d (Prefix at o x) h = expr_tells uses uses_there x h.1
      expr_tells does d (Chain at first links) h =
          let q = each_split P (in_expr first) (in_links links) h.1 in (expr_tells uses uses_there first q.0, links_tell links q.1)

      exprs_tell : (xs : CoreExprs) → Each P (in_exprs xs) → EventsTell (part_events tree locals xs)
      exprs_tell NoExprs h = tt
      exprs_tell (ExprOf x rest) h = let q = each_split P (in_expr x) (in_exprs rest) h in (expr_tells uses uses_there x q.0, exprs_tell rest q.1)

      links_tell : (links : CoreLinks) → Each P (in_links links) → EventsTell (link_events tree locals links)
      links_tell NoLinks h = tt
      links_tell (LinkOf o at x rest) h =
          let q = each_split P (in_expr x) (in_links rest) h.1 in linked_tells o (Then (expr_events tree locals uses x) (link_events tree locals rest)) (expr_tells uses uses_there x q.0, links_tell rest q.1)

      steps_tell : (steps : CoreSteps) → Each P (in_steps steps) → EventsTell (index_events tree locals steps)
      steps_tell NoSteps h = tt
      steps_tell (FieldStep name rest) h = steps_tell rest h.1
      steps_tell (IndexStep at x rest) h = let q = each_split P (in_expr x) (in_steps rest) h.1 in (expr_tells uses uses_there x q.0, steps_tell rest q.1)

      call_tells : (way : Way) (c : CoreCall) → Each P (in_call c) → EventsTell (call_events tree locals way c)
      call_tells way (CallOf root steps at args) h =
          let q = each_split P (in_steps steps) (at ∷ in_args args) h.1 in
          ((steps_tell steps q.0, root_tells uses uses_there (number_in locals root.text) root steps h.0), args_tell way at q.1.0 (callee_of tree locals root steps) args q.1.1)

      args_tell : (way : Way) (at : Place) → P at → (callee : Callee) (args : CoreArgs) → Each P (in_args args) → EventsTell (arg_events tree locals way at callee args)
      args_tell way at p callee NoArgs h = tt
      args_tell way at p callee (ValueArg x rest) h =
          let q = each_split P (in_expr x) (in_args rest) h in
          (expr_tells (given way (next_conv callee)) (given_there way (next_conv callee)) x q.0, close_tells way (opens_place tree locals way (next_conv callee) x) at p _ (args_tell way at p (other_convs callee) rest q.1))
      args_tell way at p callee (RefArg mark root steps rest) h =
          let q = each_split P (in_steps steps) (in_args rest) h.1.1 in (
            (steps_tell steps q.0, root_tells (lent (next_conv callee)) (lent_there (next_conv callee)) (number_in locals root.text) root steps h.1.0),
            close_tells way (is_local tree locals (number_in locals root.text)) at p _ (args_tell way at p (other_convs callee) rest q.1),
          )

    value_tells : (x : CoreExpr) → Each P (in_expr x) → EventsTell (value_events tree locals x)
    value_tells x h = expr_tells uses uses_there x h

    place_tells : (does : Doing) → DoesThere does → (root : Name) (steps : CoreSteps) → P root.place → Each P (in_steps steps) → EventsTell (place_events tree locals does root steps)
    place_tells does d root steps h k = (steps_tell steps k, root_tells does d (number_in locals root.text) root steps h)

    mutual
      stmt_tells : (s : Around) (x : CoreStmt) → Each P (in_stmt x) → EventsTell (stmt_events tree locals s x)
      stmt_tells s (Var at name t) h = h.1.0
      stmt_tells s (VarWith at name t x) h = (value_tells x (each_split P (in_ty t) (in_expr x) h.1.1).1, (h.1.0, h.1.0))
      stmt_tells s (Let at name t x) h = (expr_tells (λ p root. declaring s.next (event.OpenRead p) root) (λ p at k. k) x (each_split P (in_ty t) (in_expr x) h.1.1).1, (h.1.0, h.1.0))
      stmt_tells s (Inout at name t root steps) h =
          let q = each_split P (in_ty t) (root.place ∷ in_steps steps) h.1.1 in
          (place_tells (λ p root. declaring s.next (event.OpenWrite p) root) (λ p at k. k) root steps q.1.0 q.1.1, (h.1.0, h.1.0))
      stmt_tells s (Assign at root steps x) h =
          let q = each_split P (in_steps steps) (in_expr x) h.1.1 in (value_tells x q.1, place_tells inits (λ p at k. k) root steps h.1.0 q.0)
      stmt_tells s (If at branches) h = branches_tell s branches h.1
      stmt_tells s (While at test body) h =
          let q = each_split P (in_expr test) (in_block body) h.1 in ((value_tells test q.0, block_tells s body q.1), value_tells test q.0)
      stmt_tells s (Return at) h = h.0
      stmt_tells s (ReturnWith at x) h = (value_tells x h.1, h.0)
      stmt_tells s (Print at x) h = value_tells x h.1
      stmt_tells s (Task at name t spawn budget call) h =
          let q = each_split P (in_result t) (spawn ∷ (in_expr budget ++ in_call call)) h.1.1 in
          let r = each_split P (in_expr budget) (in_call call) q.1.1 in
          (value_tells budget r.0, (call_tells BySpawn call r.1, q.1.0))
      stmt_tells s (AwaitsAlone at name) h = handle_tells event.Await (number_in locals name.text) at h.0
      stmt_tells s (CallsAlone at call) h = call_tells ByCall call h.1
      stmt_tells s (Bare at block) h = block_tells s block h.1

      branches_tell : (s : Around) (branches : CoreBranches) → Each P (in_branches branches) → EventsTell (branch_events tree locals s branches)
      branches_tell s NoElse h = tt
      branches_tell s (Else block) h = block_tells s block h
      branches_tell s (BranchOf test body rest) h =
          let q = each_split P (in_expr test) (in_block body ++ in_branches rest) h in
          let r = each_split P (in_block body) (in_branches rest) q.1 in
          (value_tells test q.0, (block_tells s body r.0, branches_tell (behind_block body s) rest r.1))

      block_tells : (s : Around) (b : CoreBlock) → Each P (in_block b) → EventsTell (block_events tree locals s b)
      block_tells s (BlockOf stmts end) h = let q = each_split P (in_stmts stmts) (end ∷ []) h in (stmts_tell (entered stmts s) stmts q.0, q.1.0)

      stmts_tell : (s : Around) (stmts : CoreStmts) → Each P (in_stmts stmts) → EventsTell (stmts_events tree locals s stmts)
      stmts_tell s NoStmts h = tt
      stmts_tell s (StmtOf x rest) h = let q = each_split P (in_stmt x) (in_stmts rest) h in (stmt_tells s x q.0, stmts_tell (behind x s) rest q.1)

  -- ---- bodies

  entry_tells : (n : ℕ) (k : LocalKind) (name : Name) → P name.place → EventsTell (entry_event n k name)
  entry_tells n (Passed conv.Set) name h = h
  entry_tells n (Passed conv.Let) name h = (h, h)
  entry_tells n (Passed conv.Inout) name h = (h, h)
  entry_tells n (Passed conv.Sink) name h = (h, h)
  entry_tells n Captured name h = (h, h)
  entry_tells n VarBound name h = (h, h)
  entry_tells n LetBound name h = (h, h)
  entry_tells n InoutBound name h = (h, h)
  entry_tells n Handle name h = (h, h)

  entries_tell : (n : ℕ) (ls : List Local) → Each (LocalTells P) ls → EventsTell (entry_events n ls)
  entries_tell n [] h = tt
  entries_tell n (l ∷ ls) h = (entry_tells n l.kind l.name h.0, entries_tell (suc n) ls h.1)

  parts_of : (b : CoreBlock) → Each P (in_block b) → Each P (in_stmts (stmts_in b)) × P (end_of b)
  parts_of (BlockOf stmts end) h = let q = each_split P (in_stmts stmts) (end ∷ []) h in (q.0, q.1.0)

  body_tells : (tree : Core) (body : CoreBody) → BodyTells P body → EventsTell (body_events tree body)
  body_tells tree body h =
      let q = parts_of body.block h.1 in (
        entries_tell 0 (entry_locals body) (each_split (LocalTells P) (entry_locals body) (declared_in_block body.block) h.0).0,
        (stmts_tell tree (locals_of body) (body_around body) (stmts_in body.block) q.0, q.1),
      )

  -- ---- the rules

  change_at : (tree : Core) (s : Scope) (c : CoreCall) (place : Place) → Each P (in_call c) → TakesChange tree s c place → P place
  change_at tree s (CallOf root steps paren args) place h e = subst P e.0 h.0

  spawn_at : (tree : Core) (s : Scope) (x : CoreStmt) (place : Place) → Each P (in_stmt x) → SpawnsChange tree s x place → P place
  spawn_at tree s (Task at name t spawn budget call) place h e =
      let q = each_split P (in_result t) (spawn ∷ (in_expr budget ++ in_call call)) h.1.1 in
      change_at tree s call place (each_split P (in_expr budget) (in_call call) q.1.1).1 e
  spawn_at tree s (Var at name t) place h e = absurd e
  spawn_at tree s (VarWith at name t x) place h e = absurd e
  spawn_at tree s (Let at name t x) place h e = absurd e
  spawn_at tree s (Inout at name t root steps) place h e = absurd e
  spawn_at tree s (Assign at root steps x) place h e = absurd e
  spawn_at tree s (If at branches) place h e = absurd e
  spawn_at tree s (While at test body) place h e = absurd e
  spawn_at tree s (Return at) place h e = absurd e
  spawn_at tree s (ReturnWith at x) place h e = absurd e
  spawn_at tree s (Print at x) place h e = absurd e
  spawn_at tree s (AwaitsAlone at name) place h e = absurd e
  spawn_at tree s (CallsAlone at call) place h e = absurd e
  spawn_at tree s (Bare at block) place h e = absurd e

  part_at : (tree : Core) (s : Scope) (p : Part) (place : Place) → PartTells P p → ViolatesS3 tree s p place → P place
  part_at tree s (StmtPart x) place h e = spawn_at tree s x place h e
  part_at tree s (ExprPart x) place h e = absurd e
  part_at tree s (CallPart call) place h e = absurd e
  part_at tree s (PlacePart root steps) place h e = absurd e
  part_at tree s (TestPart x) place h e = absurd e

  at_events : (tree : Core) → Each P (places_of tree) → (r : Rule) (place : Place) → IsViolatedByEvents tree r place → P place
  at_events tree all r place (in_body body i v) =
      let b = each_at (BodyTells P) (bodies_of tree) body (bodies_tell P tree all) i in
      let t = trace_tells MarkTells (body_events tree body) (v.before ++ v.last ∷ []) (body_tells tree body b) v.trace in
      subst P v.at (each_split MarkTells v.before (v.last ∷ []) t).1.0
  at_events tree all r place (at_task w e i v) = part_at tree w.scope w.part place (each_at (SiteTells P) (sites_of tree) w (sites_tell P tree all) i) v

pub events_tell : (tree : Core) (r : Rule) (place : Place) → IsViolatedByEvents tree r place → IsIn place tree
events_tell tree r place v = at_events (Contains (places_of tree)) tree (each_contained (places_of tree)) r place v
