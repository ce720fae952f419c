-- Each part of an accepted body runs without being stuck, and gives what its type says.
use Rattle.std.proofs.Common.{◌≡◌, ◌≢◌, ◌⊎◌, inl, inr, ℕ, ◌+◌, ℤ, Bool, true, false, ◌||◌, if◌then◌else◌, List, [], ◌∷◌, ◌++◌, map, length, Option, Some, None, append_assoc, append-nil, arith, refl, sym, ap, ◌∙◌, subst}
use Rattle.std.specs.List.{slice_get}
use Rattle.hv_tree.specs.declared.place.Place.{Place}
use Rattle.hv_tree.specs.declared.types.Name.{Name}
use Rattle.hv_tree.specs.declared.types.Conv.TheVariants as conv
use Rattle.hv_tree.specs.declared.ast.Operator.{Operator}
use Rattle.hv_tree.specs.declared.ast.Operator.TheVariants as operator
use Rattle.hv_tree.specs.declared.refusal.Rule.TheVariants as rule
use Rattle.hv_tree.specs.Tokens.{Level}
use Rattle.hv_tree.specs.Core.{Core, CoreParam, CoreTy, CoreExpr, Number, Truth, Path, Calls, Awaits, Array, Filled, Count, Lambda, Prefix, Chain, CoreExprs, NoExprs, ExprOf, CoreLinks, NoLinks, LinkOf, CoreSteps, NoSteps, FieldStep, IndexStep, CoreCall, CallOf, CoreArgs, NoArgs, ValueArg, RefArg, CoreBlock, BlockOf, CoreStmts, NoStmts, StmtOf, CoreBranches, NoElse, Else, BranchOf, CoreStmt, Var, VarWith, Let, Inout, Assign, If, While, Return, ReturnWith, Print, Task, AwaitsAlone, CallsAlone, Bare}
use Rattle.hv_decls.specs.Types.{ValueType, IntType, BoolType, StructType, meant, option_meant, params_of, fun_type}
use Rattle.hv_decls.specs.Locals.{Captured, VarBound, LetBound, Local, CoreBody, param_local, entry_locals, locals_of, declared_in, in_branches, in_block, in_stmts, number_in, local_in, value_by, value_of}
use Rattle.hv_decls.specs.Locals as locals
use Rattle.hv_decls.specs.Sites.{Scope, scope_behind, capture_local, lambda_body, ExprPart, CallPart, PlacePart, StmtPart, TestPart, site, sites_of, bodies_of, expr_sites, exprs_sites, link_sites, step_sites, call_sites, arg_sites, block_sites, stmts_sites, branch_sites, stmt_sites}
use Rattle.hv_decls.specs.Statics.{type_behind}
use Rattle.hv_type_rules.specs.Typing.{Known, Unknown, Nothing, Is, known, array_of, operand_type, given_type, Signature, Signed, wanted_params, by_links, first_type, path_by, signature_of, call_type, place_type}
use Rattle.hv_type_rules.specs.Typing as typing
use Rattle.hv_type_rules.specs.TypeRules.{expr_place, Misfits, StepMisfits, StepsT3, NoArray, ChainMisfits, OperandMisfits, ReturnMisfits}
use Rattle.hv_value.specs.ValueTree.{ValueTree, Fields, Elements, Closure, Parts, Nil, Cons, row}
use Rattle.hv_value.specs.ValueTree as v
use Rattle.hv_value.specs.Texts.{text}
use Rattle.hv_sem_copying.specs.declared.end.Cause.TheVariants.{Kinds}
use Rattle.hv_sem_copying.specs.Run.{Run, Flow, ◌>>=◌, pure}
use Rattle.hv_sem_copying.specs.Ops.{Spot, Reads, Value, Lent}
use Rattle.hv_sem_copying.specs.Ops as ops
use Rattle.hv_sem_copying.specs.Operations.{applied, number, filled_with}
use Rattle.hv_value.specs.Operators.{unary, binary, decides}
use Rattle.hv_sem_copying.specs.Places.{type_of, body_number, found}
use Rattle.hv_sem_copying.specs.Calls.{Deeper, passed_captures, callee, entered, pass_value}
use Rattle.hv_sem_copying.specs.Blocks.{first_token}
use Rattle.hv_sem_copying.specs.Evaluate.{if_local, value, values, chained, indices, place_in, call, parts, args, block, statements, statement, choices}
use Rattle.hv_sem_copying.specs.Copying.{Locals, copying}
use Rattle.hv_lemmas.proofs.Members.{Among, contained}
use Rattle.hv_law_formed.specs.Formed.{AreOfLevel}
use Rattle.hv_law_safe.specs.Runs.{gives_back}
use Rattle.hv_law_safe.proofs.Ends.{Does, bind, next, behind, gives, then_known, then_pay, says, writes, unless, chooses, repeats}
use Rattle.hv_law_formed.proofs.Fits.{IsTruth, Fits, f_number, f_truth, f_closure, is_truth}
use Rattle.hv_law_formed.proofs.Inside.{AllIn, first_in, rest_in, left_in, right_in, Good, lambda_listed}
use Rattle.hv_law_safe.proofs.Lists.{mapped}
use Rattle.hv_law_formed.proofs.Ways.{l_end}
use Rattle.hv_law_safe.proofs.Asked.{ValueOf, asked, applies, between, decided, negated, inverted, then_number, fills_with, Takes}
use Rattle.hv_law_safe.proofs.Accepted.{Accepted, refused, is_used, is_captured, IsLocal, IsTop, Scoped, resolved, resolved_capture, all_distinct, body_numbered}
use Rattle.hv_law_safe.proofs.Matches.{one_number, forgets, PassedFit, value_passed, lent_passed, none_passed, passed_more, passed_still, captures_passed}
use Rattle.hv_law_safe.proofs.Named.{used, State, CalleeFits, StepsFine, Behind, PlaceOf, finds, named_local, named_top, callee_local, callee_top, no_local_value, root_here, root_type}
use Rattle.hv_law_safe.proofs.Pieces.{runs_here, formed_here, ValuesOf, elements_fit, Ready, takes, ready_next, links_give, AllAreRead, ArgsFine, args_fine, NoRefs, ArgsOf, parts_fit, fields_read, params_read, Sits, sits_first, sits_after, first_at, wider, one_more}
use Rattle.hv_law_safe.proofs.Constructs.{field_links, index_links, counts, captures, capture_typed, Returned, DeeperOk, enters_body, calls_by, PlacedFit, passes, begins, binds_local}

-- ---- how a block is left

-- what a `return` gives is a value of the result
abbrev pub GivenBack : Core → Option CoreTy → ValueTree → Type 0
GivenBack tree None v = Unit {0}
GivenBack tree (Some t) v = Fits tree (meant t) v

-- where the block must be left, its end isn't reached
abbrev pub Leaves : Core → Option CoreTy → Bool → Flow → Type 0
Leaves tree result must (Some v) = GivenBack tree result v
Leaves tree result true None = ⊥
Leaves tree result false None = Unit {0}

-- a statement of the block is a `return` with a value
abbrev pub has_return : CoreStmts → Bool
has_return NoStmts = false
has_return (StmtOf x rest) = gives_back x || has_return rest

abbrev pub block_returns : CoreBlock → Bool
block_returns (BlockOf stmts end) = has_return stmts

leaves_any : (tree : Core) (result : Option CoreTy) (must : Bool) (flow : Flow) → Leaves tree result must flow → Leaves tree result false flow
leaves_any tree result must (Some v) h = h
leaves_any tree result true None h = absurd h
leaves_any tree result false None h = h

bare_return : (tree : Core) (o : Option CoreTy) (v : ValueTree) → ((o ≢ None) → ⊥) → GivenBack tree o v
bare_return tree None v n = tt
bare_return tree (Some t) v n = absurd (n (λ e. cc))

value_return : (tree : Core) (s : Scope) (o : Option CoreTy) (x : CoreExpr) (w : ValueTree) → ((place : Place) → ReturnMisfits tree s place o x → ⊥) → ValueOf tree (typing.type_of tree s.visible x) w → GivenBack tree o w
value_return tree s None x w n h = absurd (n (expr_place x) refl)
value_return tree s (Some t) x w n h = asked (meant t) (typing.type_of tree s.visible x) w (λ m. n (expr_place x) (refl, m)) h

last_there : {A : Type 0} (xs : List A) (a : A) → slice_get (xs ++ a ∷ []) (length xs) ≡ Some a
last_there [] a = refl
last_there (x ∷ xs) a = last_there xs a

-- ---- expressions and statements

module _ {tree : Core} (ok : Accepted tree) (body : CoreBody) (good : Good tree body) (deeper : Deeper (Unit {0}) Locals) (runs : DeeperOk tree deeper) where
  -- what the indices of a place come to
  abbrev Indexed : Scope → List ValueType → CoreSteps → Type 0
  Indexed s refs steps = (t : ValueType) → StepsFine tree s (Some t) steps → Does (used body refs) (State tree body s refs) (λ ls e. Behind tree t steps ls × State tree body s refs e) (indices copying tree (locals_of body) deeper (Some t) steps)

  place_ok : (root : Name) (steps : CoreSteps) (edge : ℕ) (s : Scope) (refs : List ValueType) → Among (sites_of tree) (site s (PlacePart root steps)) → Indexed s refs steps → (r : IsLocal body edge s root.text) →
      Does (used body refs) (State tree body s refs) (PlaceOf tree body s.visible refs r.there.ty steps) (found copying (locals_of body) tree root steps (indices copying tree (locals_of body) deeper (type_of (locals_of body) root) steps))
  place_ok root steps edge s refs j ixs r =
      let fine : StepsFine tree s (Some r.there.ty) steps = record {
        t1 = λ place v. refused ok (site s (PlacePart root steps)) j rule.T1 place refl (subst (λ o. StepMisfits tree s place o steps) (sym (root_here ok body good edge s refs r)) v);
        t3 = λ place v. refused ok (site s (PlacePart root steps)) j rule.T3 place refl (subst (λ o. StepsT3 tree s place o steps) (sym (root_here ok body good edge s refs r)) v);
      } in
      finds ok body good edge s refs root steps r (subst (λ o. Does (used body refs) (State tree body s refs) (λ ls e. Behind tree r.there.ty steps ls × State tree body s refs e) (indices copying tree (locals_of body) deeper o steps)) (sym (root_type ok body good edge s refs r)) (ixs r.there.ty fine))

  resolve : (root : Name) (steps : CoreSteps) (edge : ℕ) (s : Scope) → Scoped body edge s → Among (sites_of tree) (site s (PlacePart root steps)) → IsLocal body edge s root.text ⊎ IsTop tree body s root.text
  resolve root steps edge s sc j = resolved ok body edge s root good.listed sc (is_used ok (site s (PlacePart root steps)) j root (inl refl))

  path_ok : (at : Place) (root : Name) (steps : CoreSteps) (edge : ℕ) (s : Scope) (refs : List ValueType) → Among (sites_of tree) (site s (ExprPart (Path at root steps))) → Among (sites_of tree) (site s (PlacePart root steps)) → Indexed s refs steps → IsLocal body edge s root.text ⊎ IsTop tree body s root.text →
      Does (used body refs) (State tree body s refs) (λ v e. ValueOf tree (path_by tree (local_in s.visible root.text) root steps) v × State tree body s refs e) (value copying tree (locals_of body) deeper (Path at root steps))
  path_ok at root steps edge s refs i j ixs (inl r) = named_local ok body good edge s refs root steps r (place_ok root steps edge s refs j ixs r)
  path_ok at root steps edge s refs i j ixs (inr t) = named_top ok body good edge s refs at root steps i t _

  placed_by : (at : Place) (root : Name) (steps : CoreSteps) (edge : ℕ) (s : Scope) (refs : List ValueType) → Among (sites_of tree) (site s (PlacePart root steps)) → Indexed s refs steps → IsLocal body edge s root.text ⊎ IsTop tree body s root.text →
      PlacedFit tree body s refs (Path at root steps) (place_in copying tree (locals_of body) deeper (Path at root steps))
  placed_by at root steps edge s refs j ixs (inl r) =
      subst (λ o. PlacedFit tree body s refs (Path at root steps) (if_local o (found copying (locals_of body) tree root steps (indices copying tree (locals_of body) deeper (type_of (locals_of body) root) steps)))) (sym r.numbered)
      (behind (place_ok root steps edge s refs j ixs r) (λ f e p. record {
        ty = p.ty;
        is = ap (λ o. path_by tree o root steps) r.here ∙ (ap (λ o. known (type_behind tree o steps)) r.there.typed ∙ ap known p.leads);
        place = p.place;
      }))
  placed_by at root steps edge s refs j ixs (inr t) =
      subst (λ o. PlacedFit tree body s refs (Path at root steps) (if_local o (found copying (locals_of body) tree root steps (indices copying tree (locals_of body) deeper (type_of (locals_of body) root) steps)))) (sym t.numbered) tt

  count_ok : (at : Place) (root : Name) (steps : CoreSteps) (edge : ℕ) (s : Scope) (refs : List ValueType) → Among (sites_of tree) (site s (ExprPart (Count at root steps))) → Among (sites_of tree) (site s (PlacePart root steps)) → Indexed s refs steps → IsLocal body edge s root.text ⊎ IsTop tree body s root.text →
      Does (used body refs) (State tree body s refs) (λ v e. Fits tree IntType v × State tree body s refs e) (value copying tree (locals_of body) deeper (Count at root steps))
  count_ok at root steps edge s refs i j ixs (inl r) =
      counts r.there.ty steps (place_ok root steps edge s refs j ixs r) (λ u leads e.
      refused ok (site s (ExprPart (Count at root steps))) i rule.T1 at refl (subst (NoArray tree s at) (sym (ap (λ o. type_behind tree o steps) (root_here ok body good edge s refs r) ∙ leads)) e, refl))
  count_ok at root steps edge s refs i j ixs (inr t) = absurd (refused ok (site s (ExprPart (Count at root steps))) i rule.T6 root.place refl (refl, no_local_value ok body good edge s refs t))

  filled_ok : (at : Place) (len x : CoreExpr) (s : Scope) (refs : List ValueType) → Among (sites_of tree) (site s (ExprPart (Filled at len x))) → (n w : ValueTree) → ValueOf tree (typing.type_of tree s.visible len) n → ValueOf tree (typing.type_of tree s.visible x) w →
      Does (used body refs) (State tree body s refs) (λ v e. ValueOf tree (array_of (typing.type_of tree s.visible x)) v × State tree body s refs e) (number n >>= filled_with at w)
  filled_ok at len x s refs i n w h k =
      then_number n (filled_with at w) (asked IntType (typing.type_of tree s.visible len) n (λ m. refused ok (site s (ExprPart (Filled at len x))) i rule.T1 (expr_place len) refl (inl (refl, m))) h) (λ z. by z (typing.type_of tree s.visible x) refl)
    where
      by : (z : ℤ) (t : Known) → typing.type_of tree s.visible x ≡ t → Does (used body refs) (State tree body s refs) (λ v e. ValueOf tree (array_of t) v × State tree body s refs e) (filled_with at w z)
      by z Unknown q = absurd (subst (λ t. ValueOf tree t w) q k)
      by z Nothing q = absurd (refused ok (site s (ExprPart (Filled at len x))) i rule.T1 (expr_place x) refl (inr (refl, subst (Misfits None) (sym q) tt)))
      by z (Is t) q = fills_with at w z (subst (λ t. ValueOf tree t w) q k)

  lambda_good : (at : Place) (captures : List Name) (params : List CoreParam) (result : Option CoreTy) (b : CoreBlock) (edge : ℕ) (s : Scope) → AllIn tree (expr_sites (Lambda at captures params result b) s) → ((name : Name) → Among captures name → IsLocal body edge s name.text) → Good tree (lambda_body s captures params result b)
  lambda_good at captures params result b edge s i go = record {
    listed = lambda_listed tree (site s (ExprPart (Lambda at captures params result b))) (lambda_body s captures params result b) (first_in i) (inl refl);
    sites = rest_in i;
    typed = typed;
  }
    where
      typed : (l : Local) → Among (map (capture_local s.visible) captures) l → (t : ValueType) × (value_by l.kind l.ty ≡ Some t)
      typed l h =
          let m = mapped (capture_local s.visible) captures l h in
          let t = capture_typed m.0 (go m.0 m.1) in
          (t.0, subst (λ (k : Local). value_by k.kind k.ty ≡ Some t.0) m.2 t.1)

  lambda_ok : (at : Place) (names : List Name) (params : List CoreParam) (result : Option CoreTy) (b : CoreBlock) (edge : ℕ) (s : Scope) → Scoped body edge s → (refs : List ValueType) → AllIn tree (expr_sites (Lambda at names params result b) s) →
      Does (used body refs) (State tree body s refs) (λ v e. Fits tree (fun_type (params_of params) (option_meant result)) v × State tree body s refs e) (value copying tree (locals_of body) deeper (Lambda at names params result b))
  lambda_ok at names params result b edge s sc refs i =
      let go : (name : Name) → Among names name → IsLocal body edge s name.text = λ name h. resolved_capture ok body edge s name good.listed sc (is_captured ok (site s (ExprPart (Lambda at names params result b))) (first_in i) name h) in
      let g = lambda_good at names params result b edge s i go in
      let n = body_numbered ok (lambda_body s names params result b) g.listed in
      next (captures body s refs names go) (λ vs h.
      then_known Kinds (body_number (bodies_of tree) b) n.0 _ n.1 (gives (Closure n.0 vs) (f_closure (lambda_body s names params result b) n.2 g refl h)))

  prefix_ok : (at : Place) (o : Operator) (x : CoreExpr) (s : Scope) (refs : List ValueType) (w : ValueTree) → (o ≡ operator.Neg) ⊎ (o ≡ operator.Not) → Takes tree (operand_type o) w → Does (used body refs) (State tree body s refs) (λ v e. Fits tree (given_type o) v × State tree body s refs e) (applied at (unary o w))
  prefix_ok at o x s refs w (inl e) h =
      subst (λ o. Does (used body refs) (State tree body s refs) (λ v e. Fits tree (given_type o) v × State tree body s refs e) (applied at (unary o w))) (sym e)
      (applies at (unary operator.Neg w) (negated tree w (subst (λ o. Takes tree (operand_type o) w) e h)))
  prefix_ok at o x s refs w (inr e) h =
      subst (λ o. Does (used body refs) (State tree body s refs) (λ v e. Fits tree (given_type o) v × State tree body s refs e) (applied at (unary o w))) (sym e)
      (applies at (unary operator.Not w) (inverted tree w (subst (λ o. Takes tree (operand_type o) w) e h)))

  -- one link of a chain, which may be decided by its left side
  link_ok : (o : Operator) (w : ValueTree) (s : Scope) (refs : List ValueType) {go : Run (Unit {0}) Locals ValueTree} → Takes tree (operand_type o) w →
      Does (used body refs) (State tree body s refs) (λ v e. Fits tree (given_type o) v × State tree body s refs e) go →
      Does (used body refs) (State tree body s refs) (λ v e. Fits tree (given_type o) v × State tree body s refs e) (if decides o w then pure w else go)
  link_ok o w s refs {go = go} t h = by (decides o w) refl
    where
      by : (b : Bool) → decides o w ≡ b → Does (used body refs) (State tree body s refs) (λ v e. Fits tree (given_type o) v × State tree body s refs e) (if b then pure w else go)
      by true q = gives w (decided tree o w t q)
      by false q = h

  first_ready : (s : Scope) (links : CoreLinks) (first : CoreExpr) (w : ValueTree) → ((place : Place) → ChainMisfits tree s place first links → ⊥) → ValueOf tree (typing.type_of tree s.visible first) w → Ready tree links w × ((place : Place) → OperandMisfits tree s place first links → ⊥)
  first_ready s NoLinks first w n h = (tt, λ place m. m)
  first_ready s (LinkOf o at x rest) first w n h = (takes tree (operand_type o) (typing.type_of tree s.visible first) w (λ m. n (expr_place first) (inl (refl, m))) h, λ place m. n place (inr m))

  callee_ok : (root : Name) (steps : CoreSteps) (paren : Place) (given : CoreArgs) (edge : ℕ) (s : Scope) (refs : List ValueType) → Among (sites_of tree) (site s (CallPart (CallOf root steps paren given))) → Among (sites_of tree) (site s (PlacePart root steps)) → Indexed s refs steps → IsLocal body edge s root.text ⊎ IsTop tree body s root.text →
      Does (used body refs) (State tree body s refs) (λ who e. CalleeFits tree (signature_of tree s.visible root steps) who × State tree body s refs e) (callee tree (number_in (locals_of body) root.text) root steps (found copying (locals_of body) tree root steps (indices copying tree (locals_of body) deeper (type_of (locals_of body) root) steps)))
  callee_ok root steps paren given edge s refs i j ixs (inl r) = callee_local ok body good edge s refs root steps paren given i r (place_ok root steps edge s refs j ixs r)
  callee_ok root steps paren given edge s refs i j ixs (inr t) = callee_top ok body good edge s refs root steps paren given i t _

  call_fine : (root : Name) (steps : CoreSteps) (paren : Place) (given : CoreArgs) (s : Scope) → Among (sites_of tree) (site s (CallPart (CallOf root steps paren given))) → (wanted : List typing.Wanted) (t : Known) → signature_of tree s.visible root steps ≡ Signed wanted t → AllAreRead wanted → ArgsFine tree s wanted given
  call_fine root steps paren given s i wanted t q r =
      args_fine tree s (signature_of tree s.visible root steps) wanted t paren given q r
      (λ place v. refused ok (site s (CallPart (CallOf root steps paren given))) i rule.T1 place refl v)
      (λ v. refused ok (site s (CallPart (CallOf root steps paren given))) i rule.T2 paren refl (v, refl))
      (λ place v. refused ok (site s (CallPart (CallOf root steps paren given))) i rule.T5 place refl v)

  params_let : (b : CoreBody) → Good tree b → (p : CoreParam) → Among b.params p → p.conv ≡ conv.Let
  params_let b g p i = ok.runs.params b p (contained (bodies_of tree) b g.listed) (contained b.params p i)

  -- a test is a truth value
  test_ok : (x : CoreExpr) (s : Scope) → Among (sites_of tree) (site s (TestPart x)) → {p : Run (Unit {0}) Locals ValueTree} → Does (used body []) (State tree body s []) (λ v e. ValueOf tree (typing.type_of tree s.visible x) v × State tree body s [] e) p →
      Does (used body []) (State tree body s []) (λ v e. IsTruth v × State tree body s [] e) p
  test_ok x s i h = behind h (λ v e q. (is_truth (asked BoolType (typing.type_of tree s.visible x) v (λ m. refused ok (site s (TestPart x)) i rule.T1 (expr_place x) refl (refl, m)) q.0), q.1))

  -- no visible local has the number of the edge
  not_at_edge : (edge : ℕ) (s : Scope) → Scoped body edge s → (m : Local) (y : ℕ) → Among s.visible m → slice_get (locals_of body) y ≡ Some m → y ≢ edge
  not_at_edge edge s sc m y i at e =
      let n = sc.seen m i in
      let same : n.number ≡ y = one_number (locals_of body) n.number y m (all_distinct ok body good.listed) n.at at in
      omega (arith, n.within, same, e)

  assign_ok : (at : Place) (root : Name) (steps : CoreSteps) (x : CoreExpr) (edge : ℕ) (s : Scope) → Among (sites_of tree) (site s (StmtPart (Assign at root steps x))) → Among (sites_of tree) (site s (PlacePart root steps)) → Indexed s [] steps → IsLocal body edge s root.text ⊎ IsTop tree body s root.text →
      (w : ValueTree) → ValueOf tree (typing.type_of tree s.visible x) w → (go : Run (Unit {0}) Locals Flow) (must : Bool) → Does (used body []) (State tree body s []) (λ flow e. Leaves tree body.result must flow × State tree body s [] e) go →
      Does (used body []) (State tree body s []) (λ flow e. Leaves tree body.result must flow × State tree body s [] e) (found copying (locals_of body) tree root steps (indices copying tree (locals_of body) deeper (type_of (locals_of body) root) steps) >>= (λ f. copying.write f.0 w >>= (λ done. go)))
  assign_ok at root steps x edge s i j ixs (inl r) w h go must k =
      bind (place_ok root steps edge s [] j ixs r) (λ f.
      bind {Q = λ u e. State tree body s [] e} (writes f.0 w (λ e p. ((f.1, p.place.there), p.place.puts w (fits p.ty p.leads)))) (λ done. k))
    where
      fits : (u : ValueType) → type_behind tree (Some r.there.ty) steps ≡ Some u → Fits tree u w
      fits u leads =
          let place : place_type tree s.visible root steps ≡ Some u = ap (λ o. type_behind tree o steps) (root_here ok body good edge s [] r) ∙ leads in
          asked u (typing.type_of tree s.visible x) w (λ m. refused ok (site s (StmtPart (Assign at root steps x))) i rule.T1 (expr_place x) refl (refl, subst (λ o. Misfits o (typing.type_of tree s.visible x)) (sym place) m)) h
  assign_ok at root steps x edge s i j ixs (inr t) w h go must k = absurd (refused ok (site s (StmtPart (Assign at root steps x))) i rule.T6 root.place refl (refl, no_local_value ok body good edge s [] t))

  -- what is visible behind a statement
  scoped_behind : (x : CoreStmt) (edge : ℕ) (s : Scope) → Scoped body edge s → Sits body edge (declared_in x) → AllIn tree (stmt_sites x s) → Scoped body (edge + length (declared_in x)) (scope_behind x s)
  scoped_behind (Var at name t) edge s sc z i = one_more (locals.local VarBound name t) (meant t) (first_at (locals.local VarBound name t) [] z) refl sc
  scoped_behind (VarWith at name t x) edge s sc z i = one_more (locals.local VarBound name t) (meant t) (first_at (locals.local VarBound name t) [] z) refl sc
  scoped_behind (Let at name t x) edge s sc z i = one_more (locals.local LetBound name t) (meant t) (first_at (locals.local LetBound name t) [] z) refl sc
  scoped_behind (Inout at name t root steps) edge s sc z i = one_more (locals.local locals.InoutBound name t) (meant t) (first_at (locals.local locals.InoutBound name t) [] z) refl sc
  scoped_behind (Assign at root steps x) edge s sc z i = wider 0 sc
  scoped_behind (If at branches) edge s sc z i = wider (length (in_branches branches)) sc
  scoped_behind (While at test b) edge s sc z i = wider (length (in_block b)) sc
  scoped_behind (Return at) edge s sc z i = wider 0 sc
  scoped_behind (ReturnWith at x) edge s sc z i = wider 0 sc
  scoped_behind (Print at x) edge s sc z i = wider 0 sc
  scoped_behind (Task at name t word budget call) edge s sc z i = absurd (runs_here ok (site s (StmtPart (Task at name t word budget call))) (first_in i))
  scoped_behind (AwaitsAlone at name) edge s sc z i = wider 0 sc
  scoped_behind (CallsAlone at c) edge s sc z i = wider 0 sc
  scoped_behind (Bare at b) edge s sc z i = wider (length (in_block b)) sc

  mutual
    value_ok : (x : CoreExpr) (edge : ℕ) (s : Scope) (sc : Scoped body edge s) (refs : List ValueType) → AllIn tree (expr_sites x s) →
        Does (used body refs) (State tree body s refs) (λ v e. ValueOf tree (typing.type_of tree s.visible x) v × State tree body s refs e) (value copying tree (locals_of body) deeper x)
    value_ok (Number at z) edge s sc refs i = gives (v.Number z) f_number
    value_ok (Truth at b) edge s sc refs i = gives (v.Truth b) f_truth
    value_ok (Path at root steps) edge s sc refs i =
        path_ok at root steps edge s refs (first_in i) (first_in (rest_in i)) (λ t fine. indices_ok steps edge s sc refs (rest_in (rest_in i)) t fine) (resolve root steps edge s sc (first_in (rest_in i)))
    value_ok (Calls at c) edge s sc refs i = call_ok c edge s sc refs (rest_in i)
    value_ok (Awaits at name) edge s sc refs i = absurd (runs_here ok (site s (ExprPart (Awaits at name))) (first_in i))
    value_ok (Array at xs) edge s sc refs i =
        next (values_ok xs edge s sc refs (rest_in i)) (λ ws h.
        gives (Elements (row ws)) (elements_fit tree s xs ws (formed_here ok (site s (ExprPart (Array at xs))) (first_in i)) (λ place m. refused ok (site s (ExprPart (Array at xs))) (first_in i) rule.T1 place refl m) h))
    value_ok (Filled at len x) edge s sc refs i =
        next (value_ok len edge s sc refs (left_in (expr_sites len s) (expr_sites x s) (rest_in i))) (λ n h.
        next (value_ok x edge s sc refs (right_in (expr_sites len s) (expr_sites x s) (rest_in i))) (λ w k.
        filled_ok at len x s refs (first_in i) n w h k))
    value_ok (Count at root steps) edge s sc refs i =
        count_ok at root steps edge s refs (first_in i) (first_in (rest_in i)) (λ t fine. indices_ok steps edge s sc refs (rest_in (rest_in i)) t fine) (resolve root steps edge s sc (first_in (rest_in i)))
    value_ok (Lambda at names params result b) edge s sc refs i = lambda_ok at names params result b edge s sc refs i
    value_ok (Prefix at o x) edge s sc refs i =
        next (value_ok x edge s sc refs (rest_in i)) (λ w h.
        prefix_ok at o x s refs w (formed_here ok (site s (ExprPart (Prefix at o x))) (first_in i)) (takes tree (operand_type o) (typing.type_of tree s.visible x) w (λ m. refused ok (site s (ExprPart (Prefix at o x))) (first_in i) rule.T1 (expr_place x) refl (refl, m)) h))
    value_ok (Chain at first links) edge s sc refs i =
        let f = formed_here ok (site s (ExprPart (Chain at first links))) (first_in i) in
        next (value_ok first edge s sc refs (left_in (expr_sites first s) (link_sites links s) (rest_in i))) (λ w h.
        let r = first_ready s links first w (λ place m. refused ok (site s (ExprPart (Chain at first links))) (first_in i) rule.T1 place refl m) h in
        chained_ok links first edge s sc refs (right_in (expr_sites first s) (link_sites links s) (rest_in i)) f.0 f.1 (typing.type_of tree s.visible first) w h r.0 r.1)

    values_ok : (xs : CoreExprs) (edge : ℕ) (s : Scope) (sc : Scoped body edge s) (refs : List ValueType) → AllIn tree (exprs_sites xs s) →
        Does (used body refs) (State tree body s refs) (λ ws e. ValuesOf tree s xs ws × State tree body s refs e) (values copying tree (locals_of body) deeper xs)
    values_ok NoExprs edge s sc refs i = gives [] tt
    values_ok (ExprOf x rest) edge s sc refs i =
        next (value_ok x edge s sc refs (left_in (expr_sites x s) (exprs_sites rest s) i)) (λ w h.
        next (values_ok rest edge s sc refs (right_in (expr_sites x s) (exprs_sites rest s) i)) (λ ws k.
        gives (w ∷ ws) (h, k)))

    -- the links behind an operand whose value is w
    chained_ok : (links : CoreLinks) (prev : CoreExpr) (edge : ℕ) (s : Scope) (sc : Scoped body edge s) (refs : List ValueType) → AllIn tree (link_sites links s) → (level : Level) → AreOfLevel level links → (k : Known) (w : ValueTree) → ValueOf tree k w → Ready tree links w → ((place : Place) → OperandMisfits tree s place prev links → ⊥) →
        Does (used body refs) (State tree body s refs) (λ v e. ValueOf tree (by_links links k) v × State tree body s refs e) (chained copying tree (locals_of body) deeper links w)
    chained_ok NoLinks prev edge s sc refs i level a k w h r n = gives w h
    chained_ok (LinkOf o at x rest) prev edge s sc refs i level a k w h r n =
        link_ok o w s refs r (next (value_ok x edge s sc refs (left_in (expr_sites x s) (link_sites rest s) i)) (λ u g.
        next (applies at (binary o w u) (between tree o level w u a.0 r (takes tree (operand_type o) (typing.type_of tree s.visible x) u (λ m. n (expr_place x) (inl (refl, m))) g))) (λ z f.
        behind (chained_ok rest x edge s sc refs (right_in (expr_sites x s) (link_sites rest s) i) level a.2 (Is (given_type o)) z f (ready_next o level rest z a.0 a.1 a.2 f) (λ place m. n place (inr (inr m)))) (λ v e q. (subst (λ k. ValueOf tree k v) (links_give o level rest a.0 a.2) q.0, q.1)))))

    indices_ok : (steps : CoreSteps) (edge : ℕ) (s : Scope) (sc : Scoped body edge s) (refs : List ValueType) → AllIn tree (step_sites steps s) → (t : ValueType) → StepsFine tree s (Some t) steps →
        Does (used body refs) (State tree body s refs) (λ ls e. Behind tree t steps ls × State tree body s refs e) (indices copying tree (locals_of body) deeper (Some t) steps)
    indices_ok NoSteps edge s sc refs i t fine = gives [] (record { ty = t; leads = refl; links = l_end })
    indices_ok (FieldStep name rest) edge s sc refs i t fine =
        field_links t name rest (λ o. indices copying tree (locals_of body) deeper o rest) fine (λ u f. indices_ok rest edge s sc refs i u f)
    indices_ok (IndexStep at x rest) edge s sc refs i t fine =
        index_links t at x rest (value copying tree (locals_of body) deeper x) (λ o. indices copying tree (locals_of body) deeper o rest) fine (value_ok x edge s sc refs (left_in (expr_sites x s) (step_sites rest s) i))
        (λ u f. indices_ok rest edge s sc refs (right_in (expr_sites x s) (step_sites rest s) i) u f)

    -- the place of an expression that is one
    placed_ok : (x : CoreExpr) (edge : ℕ) (s : Scope) (sc : Scoped body edge s) (refs : List ValueType) → AllIn tree (expr_sites x s) → PlacedFit tree body s refs x (place_in copying tree (locals_of body) deeper x)
    placed_ok (Path at root steps) edge s sc refs i =
        placed_by at root steps edge s refs (first_in (rest_in i)) (λ t fine. indices_ok steps edge s sc refs (rest_in (rest_in i)) t fine) (resolve root steps edge s sc (first_in (rest_in i)))
    placed_ok (Number at z) edge s sc refs i = tt
    placed_ok (Truth at b) edge s sc refs i = tt
    placed_ok (Calls at c) edge s sc refs i = tt
    placed_ok (Awaits at name) edge s sc refs i = tt
    placed_ok (Array at xs) edge s sc refs i = tt
    placed_ok (Filled at len x) edge s sc refs i = tt
    placed_ok (Count at root steps) edge s sc refs i = tt
    placed_ok (Lambda at names params result b) edge s sc refs i = tt
    placed_ok (Prefix at o x) edge s sc refs i = tt
    placed_ok (Chain at first links) edge s sc refs i = tt

    call_ok : (c : CoreCall) (edge : ℕ) (s : Scope) (sc : Scoped body edge s) (refs : List ValueType) → AllIn tree (call_sites c s) →
        Does (used body refs) (State tree body s refs) (λ v e. ValueOf tree (call_type tree s.visible c) v × State tree body s refs e) (call copying tree (locals_of body) deeper c)
    call_ok (CallOf root steps at given) edge s sc refs i =
        let here = first_in i in
        let more = rest_in (rest_in i) in
        let of_args = right_in (step_sites steps s) (arg_sites given s) more in
        next (callee_ok root steps at given edge s refs here (first_in (rest_in i)) (λ t fine. indices_ok steps edge s sc refs (left_in (step_sites steps s) (arg_sites given s) more) t fine) (resolve root steps edge s sc (first_in (rest_in i)))) (λ who c.
        calls_by ok body s refs (signature_of tree s.visible root steps) who (parts copying tree (locals_of body) deeper given) _ c
        (λ c q.
        let fine = call_fine root steps at given s here (map typing.wanted_field c.fields) (Is (StructType c.name.text)) q (fields_read c.fields) in
        behind (parts_ok given edge s sc refs of_args fine.plain) (λ ws e h. (parts_fit tree s c.fields given ws fine.t1 fine.counts h.0, h.1)))
        (λ f vs b isb g l q.
        let fine = call_fine root steps at given s here (wanted_params (params_of b.params)) (typing.or_nothing (option_meant b.result)) q (params_read b.params (params_let b g)) in
        args_ok given edge s sc of_args b.params (params_let b g) refs fine b.captures (passed_captures vs) (captures_passed (length (locals_of body)) refs l) (entered copying deeper at f b) b.result
        (λ more qs p. enters_body ok body s deeper runs at f b isb g more qs p)))

    parts_ok : (given : CoreArgs) (edge : ℕ) (s : Scope) (sc : Scoped body edge s) (refs : List ValueType) → AllIn tree (arg_sites given s) → NoRefs given →
        Does (used body refs) (State tree body s refs) (λ ws e. ArgsOf tree s given ws × State tree body s refs e) (parts copying tree (locals_of body) deeper given)
    parts_ok NoArgs edge s sc refs i n = gives [] tt
    parts_ok (ValueArg x rest) edge s sc refs i n =
        next (value_ok x edge s sc refs (left_in (expr_sites x s) (arg_sites rest s) i)) (λ w h.
        next (parts_ok rest edge s sc refs (right_in (expr_sites x s) (arg_sites rest s) i) n) (λ ws k.
        gives (w ∷ ws) (h, k)))
    parts_ok (RefArg at root steps rest) edge s sc refs i n = absurd n

    args_ok : (given : CoreArgs) (edge : ℕ) (s : Scope) (sc : Scoped body edge s) → AllIn tree (arg_sites given s) → (params : List CoreParam) → ((p : CoreParam) → Among params p → p.conv ≡ conv.Let) → (refs : List ValueType) → ArgsFine tree s (wanted_params (params_of params)) given →
        (ls : List Local) (ps : List ops.Passed) → PassedFit tree (length (locals_of body)) refs ls ps → (go : List ops.Passed → Run (Unit {0}) Locals Flow) (result : Option CoreTy) →
        ((more : List ValueType) (qs : List ops.Passed) → PassedFit tree (length (locals_of body)) more (ls ++ map param_local params) qs → Does (used body more) (State tree body s more) (λ flow e. Returned tree result flow × State tree body s more e) (go qs)) →
        Does (used body refs) (State tree body s refs) (λ flow e. Returned tree result flow × State tree body s refs e) (args copying tree (locals_of body) deeper given params ps go)
    args_ok NoArgs edge s sc i [] lets refs fine ls ps p go result k = k refs ps (subst (λ l. PassedFit tree (length (locals_of body)) refs l ps) (sym (append-nil ls)) p)
    args_ok NoArgs edge s sc i (q ∷ params) lets refs fine ls ps p go result k = absurd fine.counts
    args_ok (ValueArg x rest) edge s sc i [] lets refs fine ls ps p go result k = absurd fine.counts
    args_ok (RefArg at root steps rest) edge s sc i params lets refs fine ls ps p go result k = absurd fine.plain
    args_ok (ValueArg x rest) edge s sc i (q ∷ params) lets refs fine ls ps p go result k =
        let ix = left_in (expr_sites x s) (arg_sites rest s) i in
        let ir = right_in (expr_sites x s) (arg_sites rest s) i in
        let rest_fine : ArgsFine tree s (wanted_params (params_of params)) rest = record { t1 = λ place m. fine.t1 place (inr m); counts = fine.counts; plain = fine.plain } in
        let on = λ (more : List ValueType) (qs : List ops.Passed) (f : PassedFit tree (length (locals_of body)) more ((ls ++ param_local q ∷ []) ++ map param_local params) qs). k more qs (subst (λ l. PassedFit tree (length (locals_of body)) more l qs) (append_assoc ls (param_local q ∷ []) (map param_local params)) f) in
        subst (λ c. Does (used body refs) (State tree body s refs) (λ flow e. Returned tree result flow × State tree body s refs e) (pass_value copying c (place_in copying tree (locals_of body) deeper x) (value copying tree (locals_of body) deeper x) (λ a. args copying tree (locals_of body) deeper rest params (ps ++ a ∷ []) go))) (sym (lets q (inl refl)))
        (passes tree body s x (meant q.ty) (λ m. fine.t1 (expr_place x) (inl (refl, m))) refs (Returned tree result) (place_in copying tree (locals_of body) deeper x) (value copying tree (locals_of body) deeper x) (λ a. args copying tree (locals_of body) deeper rest params (ps ++ a ∷ []) go) (placed_ok x edge s sc refs ix) (value_ok x edge s sc refs ix)
        (λ w f. args_ok rest edge s sc ir params (λ p j. lets p (inr j)) refs rest_fine (ls ++ param_local q ∷ []) (ps ++ Value Reads w ∷ []) (passed_more p (value_passed (meant q.ty) refl f none_passed)) go result on)
        (args_ok rest edge s sc ir params (λ p j. lets p (inr j)) (refs ++ meant q.ty ∷ []) rest_fine (ls ++ param_local q ∷ []) (ps ++ Lent (used body refs) ∷ []) (passed_more (passed_still (meant q.ty) p) (lent_passed (meant q.ty) (length refs) refl (last_there refs (meant q.ty)) refl none_passed)) go result on))

    pub block_ok : (b : CoreBlock) (edge : ℕ) (s : Scope) (sc : Scoped body edge s) → Sits body edge (in_block b) → AllIn tree (block_sites b s) →
        Does (used body []) (State tree body s []) (λ flow e. Leaves tree body.result (block_returns b) flow × State tree body s [] e) (block copying tree (locals_of body) deeper b)
    block_ok (BlockOf stmts end) edge s sc z i = stmts_ok stmts edge s sc z i

    stmts_ok : (xs : CoreStmts) (edge : ℕ) (s : Scope) (sc : Scoped body edge s) → Sits body edge (in_stmts xs) → AllIn tree (stmts_sites xs s) →
        Does (used body []) (State tree body s []) (λ flow e. Leaves tree body.result (has_return xs) flow × State tree body s [] e) (statements copying tree (locals_of body) deeper xs)
    stmts_ok NoStmts edge s sc z i = gives None tt
    stmts_ok (StmtOf x rest) edge s sc z i =
        let ix = left_in (stmt_sites x s) (stmts_sites rest (scope_behind x s)) i in
        let zx = sits_first (declared_in x) (in_stmts rest) z in
        then_pay 1 (first_token x) _ (stmt_ok x edge s sc zx ix (has_return rest)
        (stmts_ok rest (edge + length (declared_in x)) (scope_behind x s) (scoped_behind x edge s sc zx ix) (sits_after (declared_in x) (in_stmts rest) z) (right_in (stmt_sites x s) (stmts_sites rest (scope_behind x s)) i)))

    -- a statement, where the rest of its block is left as it must be
    stmt_ok : (x : CoreStmt) (edge : ℕ) (s : Scope) (sc : Scoped body edge s) → Sits body edge (declared_in x) → AllIn tree (stmt_sites x s) → (must : Bool) {go : Run (Unit {0}) Locals Flow} →
        Does (used body []) (State tree body (scope_behind x s) []) (λ flow e. Leaves tree body.result must flow × State tree body (scope_behind x s) [] e) go →
        Does (used body []) (State tree body s []) (λ flow e. Leaves tree body.result (gives_back x || must) flow × State tree body s [] e) (statement copying tree (locals_of body) deeper x go)
    stmt_ok (Var at name t) edge s sc z i must h = absurd (runs_here ok (site s (StmtPart (Var at name t))) (first_in i))
    stmt_ok (VarWith at name t x) edge s sc z i must h =
        let fits = λ (m : Misfits (Some (meant t)) (typing.type_of tree s.visible x)). refused ok (site s (StmtPart (VarWith at name t x))) (first_in i) rule.T1 (expr_place x) refl (refl, m) in
        let l = locals.local VarBound name t in
        next (value_ok x edge s sc [] (rest_in i)) (λ w g.
        bind {Q = λ u e. State tree body (scope_behind (VarWith at name t x) s) [] e} (begins tree body s x (meant t) fits [] l edge (all_distinct ok body good.listed) (first_at l [] z) refl w (asked (meant t) (typing.type_of tree s.visible x) w fits g)) (λ done.
        behind h (λ flow e q. (q.0, forgets l q.1))))
    stmt_ok (Let at name t x) edge s sc z i must {go = go} h =
        let fits = λ (m : Misfits (Some (meant t)) (typing.type_of tree s.visible x)). refused ok (site s (StmtPart (Let at name t x))) (first_in i) rule.T1 (expr_place x) refl (refl, m) in
        let l = locals.local LetBound name t in
        binds_local tree body s x (meant t) fits [] (Leaves tree body.result must) l edge (place_in copying tree (locals_of body) deeper x) (value copying tree (locals_of body) deeper x) go (all_distinct ok body good.listed) (first_at l [] z) refl (not_at_edge edge s sc) (placed_ok x edge s sc [] (rest_in i)) (value_ok x edge s sc [] (rest_in i)) h
    stmt_ok (Inout at name t root steps) edge s sc z i must h = absurd (runs_here ok (site s (StmtPart (Inout at name t root steps))) (first_in i))
    stmt_ok (Assign at root steps x) edge s sc z i must {go = go} h =
        let more = rest_in (rest_in i) in
        next (value_ok x edge s sc [] (right_in (step_sites steps s) (expr_sites x s) more)) (λ w g.
        assign_ok at root steps x edge s (first_in i) (first_in (rest_in i)) (λ t fine. indices_ok steps edge s sc [] (left_in (step_sites steps s) (expr_sites x s) more) t fine) (resolve root steps edge s sc (first_in (rest_in i))) w g go must h)
    stmt_ok (If at branches) edge s sc z i must h =
        next (choices_ok branches edge s sc z (rest_in i)) (λ flow g. unless (Leaves tree body.result false) (λ v j. j) h flow g)
    stmt_ok (While at test b) edge s sc z i must h =
        next (repeats {A = Leaves tree body.result false} at tt (test_ok test s (first_in (rest_in i)) (value_ok test edge s sc [] (left_in (expr_sites test s) (block_sites b s) (rest_in (rest_in i)))))
        (behind (block_ok b edge s sc z (right_in (expr_sites test s) (block_sites b s) (rest_in (rest_in i)))) (λ flow e q. (leaves_any tree body.result (block_returns b) flow q.0, q.1)))) (λ flow g. unless (Leaves tree body.result false) (λ v j. j) h flow g)
    stmt_ok (Return at) edge s sc z i must h =
        gives (Some (Fields Nil)) (bare_return tree body.result (Fields Nil) (λ n. refused ok (site s (StmtPart (Return at))) (first_in i) rule.T1 at refl ((λ e. n (sym sc.result ∙ e)), refl)))
    stmt_ok (ReturnWith at x) edge s sc z i must h =
        next (value_ok x edge s sc [] (rest_in i)) (λ w g.
        gives (Some w) (subst (λ o. GivenBack tree o w) sc.result (value_return tree s s.result x w (λ place m. refused ok (site s (StmtPart (ReturnWith at x))) (first_in i) rule.T1 place refl m) g)))
    stmt_ok (Print at x) edge s sc z i must h =
        next (value_ok x edge s sc [] (rest_in i)) (λ w g. bind {Q = λ u e. State tree body s [] e} (says (text w ++ 10 ∷ [])) (λ done. h))
    stmt_ok (Task at name t word budget call) edge s sc z i must h = absurd (runs_here ok (site s (StmtPart (Task at name t word budget call))) (first_in i))
    stmt_ok (AwaitsAlone at name) edge s sc z i must h = absurd (runs_here ok (site s (StmtPart (AwaitsAlone at name))) (first_in i))
    stmt_ok (CallsAlone at c) edge s sc z i must h = next (call_ok c edge s sc [] (rest_in i)) (λ w g. h)
    stmt_ok (Bare at b) edge s sc z i must h =
        next (block_ok b edge s sc z (rest_in i)) (λ flow g. unless (Leaves tree body.result false) (λ v j. j) h flow (leaves_any tree body.result (block_returns b) flow g))

    choices_ok : (bs : CoreBranches) (edge : ℕ) (s : Scope) (sc : Scoped body edge s) → Sits body edge (in_branches bs) → AllIn tree (branch_sites bs s) →
        Does (used body []) (State tree body s []) (λ flow e. Leaves tree body.result false flow × State tree body s [] e) (choices copying tree (locals_of body) deeper bs)
    choices_ok NoElse edge s sc z i = gives None tt
    choices_ok (Else b) edge s sc z i = behind (block_ok b edge s sc z i) (λ flow e q. (leaves_any tree body.result (block_returns b) flow q.0, q.1))
    choices_ok (BranchOf test b rest) edge s sc z i =
        let behind_test = right_in (expr_sites test s) (block_sites b s ++ branch_sites rest s) (rest_in i) in
        chooses (test_ok test s (first_in i) (value_ok test edge s sc [] (left_in (expr_sites test s) (block_sites b s ++ branch_sites rest s) (rest_in i))))
        (behind (block_ok b edge s sc (sits_first (in_block b) (in_branches rest) z) (left_in (block_sites b s) (branch_sites rest s) behind_test)) (λ flow e q. (leaves_any tree body.result (block_returns b) flow q.0, q.1)))
        (choices_ok rest (edge + length (in_block b)) s (wider (length (in_block b)) sc) (sits_after (in_block b) (in_branches rest) z) (right_in (block_sites b s) (branch_sites rest s) behind_test))
