-- The tasks of a program that change what their caller has are those of its bodies.
use Rattle.std.proofs.Common.{◌≡◌, ◌⊎◌, inl, inr, Bool, true, false, ◌||◌, List, [], ◌∷◌, ◌++◌, Contains, refl, sym, ap, subst, ◌∙◌, append_assoc}
use Rattle.hv_tree.specs.declared.place.Place.{Place}
use Rattle.hv_tree.specs.declared.refusal.Rule.TheVariants as rule
use Rattle.hv_tree.specs.declared.refusal.Refusal.{Refusal}
use Rattle.hv_tree.specs.declared.types.Conv.{Conv}
use Rattle.hv_tree.specs.declared.types.Conv.TheVariants as conv
use Rattle.hv_tree.specs.Core.{Core, CoreDecl, StructOf, FunOf, CoreExpr, Number, Truth, Path, Calls, Awaits, Array, Filled, Count, Lambda, Prefix, Chain, CoreExprs, NoExprs, ExprOf, CoreLinks, NoLinks, LinkOf, CoreSteps, NoSteps, FieldStep, IndexStep, CoreCall, CallOf, CoreArgs, NoArgs, ValueArg, RefArg, CoreBlock, BlockOf, CoreStmts, NoStmts, StmtOf, CoreBranches, NoElse, Else, BranchOf, CoreStmt, Var, VarWith, Let, Inout, Assign, If, While, Return, ReturnWith, Print, Task, AwaitsAlone, CallsAlone, Bare}
use Rattle.hv_decls.specs.Locals.{CoreBody, fun_body, local_in}
use Rattle.hv_rules.specs.Events.{callee_by}
use Rattle.hv_rules.specs.Rules.{Changes, convs_or_none, TakesChange, SpawnsChange, ViolatesS3}
use Rattle.hv_decls.specs.Sites.{ExprPart, CallPart, PlacePart, StmtPart, TestPart, Scope, Site, site, scope_behind, body_scope, lambda_body, expr_sites, exprs_sites, link_sites, step_sites, call_sites, arg_sites, block_sites, stmts_sites, branch_sites, stmt_sites, sites_of_body, decl_sites, sites_of, body_by, lambdas_at, decl_bodies, bodies_of}
use Rattle.hv_lemmas.proofs.Members.{Among, in_left, in_right, either_in, listed, contained}
use Rattle.hv_await.specs.Acts.{refusal}
use Rattle.hv_await.specs.Changing.{is_change, any_change, if_so, takes_change, call_changes, stmt_changes, branch_changes, block_changes, stmts_changes, body_changes}

-- ---- conventions

changes_true : (c : Conv) → is_change c ≡ true → Changes c
changes_true conv.Let e = cc
changes_true conv.Inout e = inl refl
changes_true conv.Sink e = cc
changes_true conv.Set e = inr refl

true_changes : (c : Conv) → Changes c → is_change c ≡ true
true_changes c (inl e) = ap is_change e
true_changes c (inr e) = ap is_change e

-- one of them is so
AnyChange : List Conv → Type 0
AnyChange cs = (c : Conv) × Among cs c × Changes c

any_true : (cs : List Conv) → any_change cs ≡ true → AnyChange cs
unfolding AnyChange
any_true [] e = cc
any_true (c ∷ cs) e = by (is_change c) refl (λ h. any_true cs h)
  where
    by : (b : Bool) → is_change c ≡ b → (any_change cs ≡ true → AnyChange cs) → AnyChange (c ∷ cs)
    by true h more = (c, inl refl, changes_true c h)
    by false h more = let t = more (ap (λ b. b || any_change cs) (sym h) ∙ e) in (t.0, inr t.1, t.2)

true_any : (cs : List Conv) → AnyChange cs → any_change cs ≡ true
unfolding AnyChange
true_any [] (c, i, h) = absurd i
true_any (d ∷ cs) (c, inl e, h) = ap (λ b. b || any_change cs) (true_changes d (subst Changes (sym e) h))
true_any (d ∷ cs) (c, inr i, h) = by (is_change d) (true_any cs (c, i, h))
  where
    by : (b : Bool) → any_change cs ≡ true → (b || any_change cs) ≡ true
    by true e = refl
    by false e = e

-- ---- sites

module _ (tree : Core) (place : Place) where
  -- one of the sites is such a task
  abbrev AtSites : List Site → Type 0
  AtSites [] = ⊥
  AtSites (w ∷ ws) = ViolatesS3 tree w.scope w.part place ⊎ AtSites ws

  -- it is among those of a body
  abbrev pub InBodies : List CoreBody → Type 0
  InBodies [] = ⊥
  InBodies (b ∷ bs) = Among (body_changes tree b) (refusal rule.S3 place) ⊎ InBodies bs

  abbrev Own : List Refusal → Type 0
  Own own = Among own (refusal rule.S3 place)

  -- such a task at these sites is one of these, or of a lambda's body there
  record Parts (ws : List Site) (own : List Refusal) : Type 0 where
    apart : AtSites ws → Own own ⊎ InBodies (lambdas_at ws)
    here : Own own → AtSites ws
    inside : InBodies (lambdas_at ws) → AtSites ws

  sites_left : (ws us : List Site) → AtSites ws → AtSites (ws ++ us)
  sites_left [] us h = absurd h
  sites_left (w ∷ ws) us (inl h) = inl h
  sites_left (w ∷ ws) us (inr h) = inr (sites_left ws us h)

  sites_right : (ws us : List Site) → AtSites us → AtSites (ws ++ us)
  sites_right [] us h = h
  sites_right (w ∷ ws) us h = inr (sites_right ws us h)

  sites_either : (ws us : List Site) → AtSites (ws ++ us) → AtSites ws ⊎ AtSites us
  sites_either [] us h = inr h
  sites_either (w ∷ ws) us (inl h) = inl (inl h)
  sites_either (w ∷ ws) us (inr h) = by (sites_either ws us h)
    where
      by : AtSites ws ⊎ AtSites us → AtSites (w ∷ ws) ⊎ AtSites us
      by (inl i) = inl (inr i)
      by (inr i) = inr i

  pub bodies_left : (bs cs : List CoreBody) → InBodies bs → InBodies (bs ++ cs)
  bodies_left [] cs h = absurd h
  bodies_left (b ∷ bs) cs (inl h) = inl h
  bodies_left (b ∷ bs) cs (inr h) = inr (bodies_left bs cs h)

  pub bodies_right : (bs cs : List CoreBody) → InBodies cs → InBodies (bs ++ cs)
  bodies_right [] cs h = h
  bodies_right (b ∷ bs) cs h = inr (bodies_right bs cs h)

  pub bodies_either : (bs cs : List CoreBody) → InBodies (bs ++ cs) → InBodies bs ⊎ InBodies cs
  bodies_either [] cs h = inr h
  bodies_either (b ∷ bs) cs (inl h) = inl (inl h)
  bodies_either (b ∷ bs) cs (inr h) = by (bodies_either bs cs h)
    where
      by : InBodies bs ⊎ InBodies cs → InBodies (b ∷ bs) ⊎ InBodies cs
      by (inl i) = inl (inr i)
      by (inr i) = inr i

  lambdas_both : (ws us : List Site) → lambdas_at (ws ++ us) ≡ lambdas_at ws ++ lambdas_at us
  lambdas_both [] us = refl
  lambdas_both (w ∷ ws) us = ap (λ l. body_by w.scope w.part ++ l) (lambdas_both ws us) ∙ sym (append_assoc (body_by w.scope w.part) (lambdas_at ws) (lambdas_at us))

  nothing : Parts [] []
  nothing = record { apart = λ h. absurd h; here = λ h. absurd h; inside = λ h. absurd h }

  both : (ws us : List Site) (xs ys : List Refusal) → Parts ws xs → Parts us ys → Parts (ws ++ us) (xs ++ ys)
  both ws us xs ys p q = record {
    apart = λ h. split (sites_either ws us h);
    here = λ h. own (either_in xs ys (refusal rule.S3 place) h);
    inside = λ h. lam (bodies_either (lambdas_at ws) (lambdas_at us) (subst InBodies (lambdas_both ws us) h));
  }
    where
      left : Own xs ⊎ InBodies (lambdas_at ws) → Own (xs ++ ys) ⊎ InBodies (lambdas_at (ws ++ us))
      left (inl h) = inl (in_left xs ys (refusal rule.S3 place) h)
      left (inr h) = inr (subst InBodies (sym (lambdas_both ws us)) (bodies_left (lambdas_at ws) (lambdas_at us) h))

      right : Own ys ⊎ InBodies (lambdas_at us) → Own (xs ++ ys) ⊎ InBodies (lambdas_at (ws ++ us))
      right (inl h) = inl (in_right xs ys (refusal rule.S3 place) h)
      right (inr h) = inr (subst InBodies (sym (lambdas_both ws us)) (bodies_right (lambdas_at ws) (lambdas_at us) h))

      split : AtSites ws ⊎ AtSites us → Own (xs ++ ys) ⊎ InBodies (lambdas_at (ws ++ us))
      split (inl h) = left (p.apart h)
      split (inr h) = right (q.apart h)

      own : Own xs ⊎ Own ys → AtSites (ws ++ us)
      own (inl h) = sites_left ws us (p.here h)
      own (inr h) = sites_right ws us (q.here h)

      lam : InBodies (lambdas_at ws) ⊎ InBodies (lambdas_at us) → AtSites (ws ++ us)
      lam (inl h) = sites_left ws us (p.inside h)
      lam (inr h) = sites_right ws us (q.inside h)

  -- a site that is neither
  past : (w : Site) (ws : List Site) (own : List Refusal) → (ViolatesS3 tree w.scope w.part place → ⊥) → body_by w.scope w.part ≡ [] → Parts ws own → Parts (w ∷ ws) own
  past w ws own never none p = record {
    apart = λ h. split h;
    here = λ h. inr (p.here h);
    inside = λ h. inr (p.inside (subst InBodies lambdas h));
  }
    where
      lambdas : lambdas_at (w ∷ ws) ≡ lambdas_at ws
      lambdas = ap (λ l. l ++ lambdas_at ws) none

      wide : Own own ⊎ InBodies (lambdas_at ws) → Own own ⊎ InBodies (lambdas_at (w ∷ ws))
      wide (inl h) = inl h
      wide (inr h) = inr (subst InBodies (sym lambdas) h)

      split : AtSites (w ∷ ws) → Own own ⊎ InBodies (lambdas_at (w ∷ ws))
      split (inl h) = absurd (never h)
      split (inr h) = wide (p.apart h)

  -- a task
  call_parts : (s : Scope) (c : CoreCall) → (TakesChange tree s c place → Own (call_changes tree s.visible c)) × (Own (call_changes tree s.visible c) → TakesChange tree s c place)
  unfolding AnyChange
  call_parts s (CallOf root steps paren args) = (there, back (takes_change tree s.visible root steps) refl)
    where
      convs : List Conv
      convs = convs_or_none (callee_by tree (local_in s.visible root.text) root steps)

      there : TakesChange tree s (CallOf root steps paren args) place → Own (if_so (takes_change tree s.visible root steps) (refusal rule.S3 root.place))
      there (e, c, i, h) =
          subst (λ b. Own (if_so b (refusal rule.S3 root.place))) (sym (true_any (convs_or_none (callee_by tree (local_in s.visible root.text) root steps)) (c, listed (convs_or_none (callee_by tree (local_in s.visible root.text) root steps)) c i, h))) (inl (ap (refusal rule.S3) e))

      back : (b : Bool) → takes_change tree s.visible root steps ≡ b → Own (if_so (takes_change tree s.visible root steps) (refusal rule.S3 root.place)) → TakesChange tree s (CallOf root steps paren args) place
      back true e h = by (subst (λ b. Own (if_so b (refusal rule.S3 root.place))) e h)
        where
          by : Own (refusal rule.S3 root.place ∷ []) → TakesChange tree s (CallOf root steps paren args) place
          by (inl q) =
              let t = any_true (convs_or_none (callee_by tree (local_in s.visible root.text) root steps)) e in
              (ap (λ r. r.place) q, t.0, contained (convs_or_none (callee_by tree (local_in s.visible root.text) root steps)) t.0 t.1, t.2)
          by (inr q) = absurd q
      back false e h = absurd (subst (λ b. Own (if_so b (refusal rule.S3 root.place))) e h)

  task : (s : Scope) (x : CoreStmt) (c : CoreCall) (ws : List Site) → ((h : SpawnsChange tree s x place) → TakesChange tree s c place) → (TakesChange tree s c place → SpawnsChange tree s x place) → Parts ws [] →
      Parts (site s (StmtPart x) ∷ ws) (call_changes tree s.visible c)
  task s x c ws to of p = record {
    apart = λ h. split h;
    here = λ h. inl (of ((call_parts s c).1 h));
    inside = λ h. inr (p.inside h);
  }
    where
      wide : Own [] ⊎ InBodies (lambdas_at ws) → Own (call_changes tree s.visible c) ⊎ InBodies (lambdas_at ws)
      wide (inl h) = absurd h
      wide (inr h) = inr h

      split : AtSites (site s (StmtPart x) ∷ ws) → Own (call_changes tree s.visible c) ⊎ InBodies (lambdas_at ws)
      split (inl h) = inl ((call_parts s c).0 (to h))
      split (inr h) = wide (p.apart h)

  -- a lambda
  lambda : (w : Site) (ws : List Site) (b : CoreBody) → (ViolatesS3 tree w.scope w.part place → ⊥) → body_by w.scope w.part ≡ b ∷ [] → Parts ws (body_changes tree b) → Parts (w ∷ ws) []
  lambda w ws b never one p = record {
    apart = λ h. inr (split h);
    here = λ h. absurd h;
    inside = λ h. inr (lam (subst InBodies lambdas h));
  }
    where
      lambdas : lambdas_at (w ∷ ws) ≡ b ∷ lambdas_at ws
      lambdas = ap (λ l. l ++ lambdas_at ws) one

      wide : Own (body_changes tree b) ⊎ InBodies (lambdas_at ws) → InBodies (b ∷ lambdas_at ws)
      wide (inl h) = inl h
      wide (inr h) = inr h

      split : AtSites (w ∷ ws) → InBodies (lambdas_at (w ∷ ws))
      split (inl h) = absurd (never h)
      split (inr h) = subst InBodies (sym lambdas) (wide (p.apart h))

      lam : InBodies (b ∷ lambdas_at ws) → AtSites ws
      lam (inl h) = p.here h
      lam (inr h) = p.inside h

  -- ---- all parts

  no : ⊥ → ⊥
  no h = h

  mutual
    expr_parts : (x : CoreExpr) (s : Scope) → Parts (expr_sites x s) []
    expr_parts (Number at z) s = past (site s (ExprPart (Number at z))) [] [] no refl nothing
    expr_parts (Truth at b) s = past (site s (ExprPart (Truth at b))) [] [] no refl nothing
    expr_parts (Path at root steps) s =
        past (site s (ExprPart (Path at root steps))) (site s (PlacePart root steps) ∷ step_sites steps s) [] no refl (past (site s (PlacePart root steps)) (step_sites steps s) [] no refl (steps_parts steps s))
    expr_parts (Calls at call) s = past (site s (ExprPart (Calls at call))) (call_sites call s) [] no refl (called_parts call s)
    expr_parts (Awaits at name) s = past (site s (ExprPart (Awaits at name))) [] [] no refl nothing
    expr_parts (Array at xs) s = past (site s (ExprPart (Array at xs))) (exprs_sites xs s) [] no refl (exprs_parts xs s)
    expr_parts (Filled at len value) s =
        past (site s (ExprPart (Filled at len value))) (expr_sites len s ++ expr_sites value s) [] no refl (both (expr_sites len s) (expr_sites value s) [] [] (expr_parts len s) (expr_parts value s))
    expr_parts (Count at root steps) s =
        past (site s (ExprPart (Count at root steps))) (site s (PlacePart root steps) ∷ step_sites steps s) [] no refl (past (site s (PlacePart root steps)) (step_sites steps s) [] no refl (steps_parts steps s))
    expr_parts (Lambda at captures params result body) s =
        lambda (site s (ExprPart (Lambda at captures params result body))) (block_sites body (body_scope (lambda_body s captures params result body))) (lambda_body s captures params result body) no refl
        (block_parts body (body_scope (lambda_body s captures params result body)))
    expr_parts (Prefix at o x) s = past (site s (ExprPart (Prefix at o x))) (expr_sites x s) [] no refl (expr_parts x s)
    expr_parts (Chain at first links) s =
        past (site s (ExprPart (Chain at first links))) (expr_sites first s ++ link_sites links s) [] no refl (both (expr_sites first s) (link_sites links s) [] [] (expr_parts first s) (links_parts links s))

    exprs_parts : (xs : CoreExprs) (s : Scope) → Parts (exprs_sites xs s) []
    exprs_parts NoExprs s = nothing
    exprs_parts (ExprOf x rest) s = both (expr_sites x s) (exprs_sites rest s) [] [] (expr_parts x s) (exprs_parts rest s)

    links_parts : (xs : CoreLinks) (s : Scope) → Parts (link_sites xs s) []
    links_parts NoLinks s = nothing
    links_parts (LinkOf o at x rest) s = both (expr_sites x s) (link_sites rest s) [] [] (expr_parts x s) (links_parts rest s)

    steps_parts : (xs : CoreSteps) (s : Scope) → Parts (step_sites xs s) []
    steps_parts NoSteps s = nothing
    steps_parts (FieldStep name rest) s = steps_parts rest s
    steps_parts (IndexStep at x rest) s = both (expr_sites x s) (step_sites rest s) [] [] (expr_parts x s) (steps_parts rest s)

    called_parts : (c : CoreCall) (s : Scope) → Parts (call_sites c s) []
    called_parts (CallOf root steps at args) s =
        past (site s (CallPart (CallOf root steps at args))) (site s (PlacePart root steps) ∷ (step_sites steps s ++ arg_sites args s)) [] no refl
        (past (site s (PlacePart root steps)) (step_sites steps s ++ arg_sites args s) [] no refl (both (step_sites steps s) (arg_sites args s) [] [] (steps_parts steps s) (args_parts args s)))

    args_parts : (xs : CoreArgs) (s : Scope) → Parts (arg_sites xs s) []
    args_parts NoArgs s = nothing
    args_parts (ValueArg x rest) s = both (expr_sites x s) (arg_sites rest s) [] [] (expr_parts x s) (args_parts rest s)
    args_parts (RefArg at root steps rest) s =
        past (site s (PlacePart root steps)) (step_sites steps s ++ arg_sites rest s) [] no refl (both (step_sites steps s) (arg_sites rest s) [] [] (steps_parts steps s) (args_parts rest s))

    block_parts : (b : CoreBlock) (s : Scope) → Parts (block_sites b s) (block_changes tree s.visible b)
    block_parts (BlockOf stmts end) s = stmts_parts stmts s

    stmts_parts : (xs : CoreStmts) (s : Scope) → Parts (stmts_sites xs s) (stmts_changes tree s.visible xs)
    stmts_parts NoStmts s = nothing
    stmts_parts (StmtOf x rest) s =
        both (stmt_sites x s) (stmts_sites rest (scope_behind x s)) (stmt_changes tree s.visible x) (stmts_changes tree (scope_behind x s).visible rest) (stmt_parts x s) (stmts_parts rest (scope_behind x s))

    branches_parts : (xs : CoreBranches) (s : Scope) → Parts (branch_sites xs s) (branch_changes tree s.visible xs)
    branches_parts NoElse s = nothing
    branches_parts (Else block) s = block_parts block s
    branches_parts (BranchOf test body rest) s =
        past (site s (TestPart test)) (expr_sites test s ++ (block_sites body s ++ branch_sites rest s)) (block_changes tree s.visible body ++ branch_changes tree s.visible rest) no refl
        (both (expr_sites test s) (block_sites body s ++ branch_sites rest s) [] (block_changes tree s.visible body ++ branch_changes tree s.visible rest) (expr_parts test s)
        (both (block_sites body s) (branch_sites rest s) (block_changes tree s.visible body) (branch_changes tree s.visible rest) (block_parts body s) (branches_parts rest s)))

    stmt_parts : (x : CoreStmt) (s : Scope) → Parts (stmt_sites x s) (stmt_changes tree s.visible x)
    stmt_parts (Var at name t) s = past (site s (StmtPart (Var at name t))) [] [] no refl nothing
    stmt_parts (VarWith at name t x) s = past (site s (StmtPart (VarWith at name t x))) (expr_sites x s) [] no refl (expr_parts x s)
    stmt_parts (Let at name t x) s = past (site s (StmtPart (Let at name t x))) (expr_sites x s) [] no refl (expr_parts x s)
    stmt_parts (Inout at name t root steps) s =
        past (site s (StmtPart (Inout at name t root steps))) (site s (PlacePart root steps) ∷ step_sites steps s) [] no refl (past (site s (PlacePart root steps)) (step_sites steps s) [] no refl (steps_parts steps s))
    stmt_parts (Assign at root steps x) s =
        past (site s (StmtPart (Assign at root steps x))) (site s (PlacePart root steps) ∷ (step_sites steps s ++ expr_sites x s)) [] no refl
        (past (site s (PlacePart root steps)) (step_sites steps s ++ expr_sites x s) [] no refl (both (step_sites steps s) (expr_sites x s) [] [] (steps_parts steps s) (expr_parts x s)))
    stmt_parts (If at branches) s = past (site s (StmtPart (If at branches))) (branch_sites branches s) (branch_changes tree s.visible branches) no refl (branches_parts branches s)
    stmt_parts (While at test body) s =
        past (site s (StmtPart (While at test body))) (site s (TestPart test) ∷ (expr_sites test s ++ block_sites body s)) (block_changes tree s.visible body) no refl
        (past (site s (TestPart test)) (expr_sites test s ++ block_sites body s) (block_changes tree s.visible body) no refl
        (both (expr_sites test s) (block_sites body s) [] (block_changes tree s.visible body) (expr_parts test s) (block_parts body s)))
    stmt_parts (Return at) s = past (site s (StmtPart (Return at))) [] [] no refl nothing
    stmt_parts (ReturnWith at x) s = past (site s (StmtPart (ReturnWith at x))) (expr_sites x s) [] no refl (expr_parts x s)
    stmt_parts (Print at x) s = past (site s (StmtPart (Print at x))) (expr_sites x s) [] no refl (expr_parts x s)
    stmt_parts (Task at name t spawn budget call) s =
        task s (Task at name t spawn budget call) call (expr_sites budget s ++ call_sites call s) (λ h. h) (λ h. h) (both (expr_sites budget s) (call_sites call s) [] [] (expr_parts budget s) (called_parts call s))
    stmt_parts (AwaitsAlone at name) s = past (site s (StmtPart (AwaitsAlone at name))) [] [] no refl nothing
    stmt_parts (CallsAlone at call) s = past (site s (StmtPart (CallsAlone at call))) (call_sites call s) [] no refl (called_parts call s)
    stmt_parts (Bare at block) s = past (site s (StmtPart (Bare at block))) (block_sites block s) (block_changes tree s.visible block) no refl (block_parts block s)

  -- ---- the whole program

  decls_apart : (ds : List CoreDecl) → AtSites (decl_sites ds) → InBodies (decl_bodies ds)
  decls_apart [] h = h
  decls_apart (StructOf c ∷ rest) h = decls_apart rest h
  decls_apart (FunOf f ∷ rest) h = by (sites_either (sites_of_body (fun_body f)) (decl_sites rest) h) (λ k. decls_apart rest k)
    where
      parts : Parts (sites_of_body (fun_body f)) (body_changes tree (fun_body f))
      parts = block_parts f.body (body_scope (fun_body f))

      one : Own (body_changes tree (fun_body f)) ⊎ InBodies (lambdas_at (sites_of_body (fun_body f))) → InBodies (decl_bodies (FunOf f ∷ rest))
      one (inl k) = inl k
      one (inr k) = inr (bodies_left (lambdas_at (sites_of_body (fun_body f))) (decl_bodies rest) k)

      by : AtSites (sites_of_body (fun_body f)) ⊎ AtSites (decl_sites rest) → (AtSites (decl_sites rest) → InBodies (decl_bodies rest)) → InBodies (decl_bodies (FunOf f ∷ rest))
      by (inl k) more = one (parts.apart k)
      by (inr k) more = inr (bodies_right (lambdas_at (sites_of_body (fun_body f))) (decl_bodies rest) (more k))

  decls_inside : (ds : List CoreDecl) → InBodies (decl_bodies ds) → AtSites (decl_sites ds)
  decls_inside [] h = h
  decls_inside (StructOf c ∷ rest) h = decls_inside rest h
  decls_inside (FunOf f ∷ rest) (inl h) = sites_left (sites_of_body (fun_body f)) (decl_sites rest) ((block_parts f.body (body_scope (fun_body f))).here h)
  decls_inside (FunOf f ∷ rest) (inr h) = by (bodies_either (lambdas_at (sites_of_body (fun_body f))) (decl_bodies rest) h) (λ k. decls_inside rest k)
    where
      by : InBodies (lambdas_at (sites_of_body (fun_body f))) ⊎ InBodies (decl_bodies rest) → (InBodies (decl_bodies rest) → AtSites (decl_sites rest)) → AtSites (decl_sites (FunOf f ∷ rest))
      by (inl k) more = sites_left (sites_of_body (fun_body f)) (decl_sites rest) ((block_parts f.body (body_scope (fun_body f))).inside k)
      by (inr k) more = sites_right (sites_of_body (fun_body f)) (decl_sites rest) (more k)

  at_sites : (ws : List Site) (w : Site) → Among ws w → ViolatesS3 tree w.scope w.part place → AtSites ws
  at_sites [] w h v = h
  at_sites (u ∷ ws) w (inl e) v = inl (subst (λ (x : Site). ViolatesS3 tree x.scope x.part place) (sym e) v)
  at_sites (u ∷ ws) w (inr h) v = inr (at_sites ws w h v)

  of_sites : (ws : List Site) → AtSites ws → (w : Site) × Among ws w × ViolatesS3 tree w.scope w.part place
  of_sites [] h = absurd h
  of_sites (w ∷ ws) (inl h) = (w, inl refl, h)
  of_sites (w ∷ ws) (inr h) = let t = of_sites ws h in (t.0, inr t.1, t.2)

  pub task_in_bodies : (w : Site) → Contains (sites_of tree) w → ViolatesS3 tree w.scope w.part place → InBodies (bodies_of tree)
  task_in_bodies w c v = decls_apart tree.decls (at_sites (sites_of tree) w (listed (sites_of tree) w c) v)

  pub task_of_bodies : InBodies (bodies_of tree) → (w : Site) × Contains (sites_of tree) w × ViolatesS3 tree w.scope w.part place
  task_of_bodies h = let t = of_sites (sites_of tree) (decls_inside tree.decls h) in (t.0, contained (sites_of tree) t.0 t.1, t.2)
