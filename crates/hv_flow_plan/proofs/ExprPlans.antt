-- The plan of each expression, by its variant, as code meets it.
use Rattle.std.proofs.Common.{◌≡◌, ℕ, zero, suc, ℤ, Bool, true, false, if◌then◌else◌, List, [], ◌∷◌, ◌++◌, ◌+◌, ◌-◌, ◌<◌, length, drop, get_or, Option, refl, sym, ap, ◌∙◌, append_assoc, append-nil, arith}
use Rattle.hv_tree.specs.declared.place.Place.{Place}
use Rattle.hv_tree.specs.declared.types.Name.{Name}
use Rattle.hv_tree.specs.declared.types.Conv.{Conv}
use Rattle.hv_tree.specs.declared.types.Ty.{Ty}
use Rattle.hv_tree.specs.declared.ast.Operator.{Operator}
use Rattle.hv_tree.specs.declared.ast.Param.{Param}
use Rattle.hv_tree.specs.declared.ast.Arg.{Arg, out-Arg}
use Rattle.hv_tree.specs.declared.ast.Block.{Block}
use Rattle.hv_tree.specs.declared.ast.Branch.{Branch}
use Rattle.hv_tree.specs.declared.ast.Call.{Call, out-Call}
use Rattle.hv_tree.specs.declared.ast.Expr.{Expr, out-Expr}
use Rattle.hv_tree.specs.declared.ast.ExprKind.{ExprKind, out-ExprKind}
use Rattle.hv_tree.specs.declared.ast.ExprKind.TheVariants as expr
use Rattle.hv_tree.specs.declared.ast.PlaceExpr.{PlaceExpr, out-PlaceExpr}
use Rattle.hv_tree.specs.declared.ast.Step.{Step, out-Step}
use Rattle.hv_tree.specs.declared.ast.Step.TheVariants as step
use Rattle.hv_tree.specs.declared.ast.Stmt.{Stmt}
use Rattle.hv_tree.specs.declared.ast.StmtKind.{StmtKind}
use Rattle.hv_tree.specs.declared.ast.Arg.TheVariants as arg
use Rattle.hv_tree.specs.declared.ast.Arg.TheOpen.{Arg-F, ExprKind-F, Step-F}
use Rattle.hv_tree.specs.Core.{Core, CoreExpr, Path, CoreSteps, NoSteps, CoreArgs, NoArgs, CoreCall, CallOf, core_of, core_kind, core_step, core_steps, core_place, core_arg, core_args, core_links}
use Rattle.hv_tree.proofs.CoreLemmas as lemmas
use Rattle.hv_rules.specs.declared.event.FlowEvent.TheVariants as event
use Rattle.hv_decls.specs.Locals.{Local, number_in, local_in}
use Rattle.hv_rules.specs.Flow.{Skip, Then, Either}
use Rattle.hv_rules.specs.Events as events
use Rattle.hv_flow_plan.specs.declared.plan.FlowOp.{FlowOp}
use Rattle.hv_flow_plan.specs.declared.plan.FlowOp.TheVariants as op
use Rattle.hv_flow_plan.specs.declared.doing.Doing.{Doing}
use Rattle.hv_flow_plan.specs.declared.doing.Doing.TheVariants as doing
use Rattle.hv_flow_plan.specs.declared.doing.Way.{Way}
use Rattle.hv_flow_plan.specs.declared.doing.Way.TheVariants as way
use Rattle.hv_flow_plan.specs.Spelling.{plan_of}
use Rattle.hv_flow_plan.specs.Plans as plans
use Rattle.hv_lemmas.proofs.Lists.{first_left, arg_added}

pub closes_more : (n : ℕ) (at : Place) → 0 < n → plans.closes n at ≡ op.Do event.Close at ∷ plans.closes (n - 1) at
closes_more zero at h = absurd (omega (arith, h))
closes_more (suc n) at h = let e : suc n - 1 ≡ n = omega arith in rw e refl

closes_two : (b : Bool) (n k : ℕ) (at : Place) → k ≡ plans.count_open b → plans.closes (n + k) at ≡ plans.closes (plans.count_open b) at ++ plans.closes n at
closes_two true n k at h = let e : n + k ≡ suc n = omega (arith, h) in ap (λ m. plans.closes m at) e
closes_two false n k at h = let e : n + k ≡ n = omega (arith, h) in ap (λ m. plans.closes m at) e

abbrev pub KindLayer : Type 0
KindLayer = ExprKind-F Arg ExprKind Step StmtKind Block Branch Call Expr PlaceExpr Stmt

abbrev StepLayer : Type 0
StepLayer = Step-F Arg ExprKind Step StmtKind Block Branch Call Expr PlaceExpr Stmt

abbrev ArgLayer : Type 0
ArgLayer = Arg-F Arg ExprKind Step StmtKind Block Branch Call Expr PlaceExpr Stmt

module _ (tree : Core) (locals : List Local) where
  -- ---- places

  unfoldable pub place_by : KindLayer → Bool
  place_by (ExprKind-F.Path p) = events.is_local tree locals (number_in locals (out-PlaceExpr p).root.text)
  place_by _ = false

  path_place : (at : Place) (p : PlaceExpr) → events.is_place tree locals (Path at (core_place p).0 (core_place p).1) ≡ events.is_local tree locals (number_in locals (out-PlaceExpr p).root.text)
  path_place at p = ap (λ (q : Name × CoreSteps). events.is_local tree locals (number_in locals q.0.text)) (lemmas.opened_place p)

  place_kind : (k : ExprKind) (at : Place) (u : KindLayer) → out-ExprKind k ≡ u → events.is_place tree locals (core_kind k at) ≡ place_by u
  unfolding place_by
  place_kind k at (ExprKind-F.Int z) e = ap (events.is_place tree locals) (lemmas.kind_int k at z e)
  place_kind k at (ExprKind-F.Bool b) e = ap (events.is_place tree locals) (lemmas.kind_bool k at b e)
  place_kind k at (ExprKind-F.Path p) e = ap (events.is_place tree locals) (lemmas.kind_path k at p e) ∙ path_place at p
  place_kind k at (ExprKind-F.ExprKind::Call c) e = ap (events.is_place tree locals) (lemmas.kind_call k at c e)
  place_kind k at (ExprKind-F.ExprKind::Await name) e = ap (events.is_place tree locals) (lemmas.kind_await k at name e)
  place_kind k at (ExprKind-F.ArrayLit xs) e = ap (events.is_place tree locals) (lemmas.kind_array_lit k at xs e)
  place_kind k at (ExprKind-F.Filled len value) e = ap (events.is_place tree locals) (lemmas.kind_filled k at len value e)
  place_kind k at (ExprKind-F.Count p) e = ap (events.is_place tree locals) (lemmas.kind_count k at p e)
  place_kind k at (ExprKind-F.Lambda captures params result body) e = ap (events.is_place tree locals) (lemmas.kind_lambda k at captures params result body e)
  place_kind k at (ExprKind-F.Prefix o x) e = ap (events.is_place tree locals) (lemmas.kind_prefix k at o x e)
  place_kind k at (ExprKind-F.Chain first links) e = ap (events.is_place tree locals) (lemmas.kind_chain k at first links e)

  pub place_opened : (x : Expr) → events.is_place tree locals (core_of x) ≡ place_by (out-ExprKind (out-Expr x).kind)
  place_opened x = ap (events.is_place tree locals) (lemmas.opened_expr x) ∙ place_kind (out-Expr x).kind (out-Expr x).place (out-ExprKind (out-Expr x).kind) refl

  pub place_path : (x : Expr) (p : PlaceExpr) → (out-Expr x).kind ≡ expr.Path p → events.is_place tree locals (core_of x) ≡ events.is_local tree locals (number_in locals (out-PlaceExpr p).root.text)
  place_path x p h = ap (events.is_place tree locals) (lemmas.expr_path x p h) ∙ path_place (out-Expr x).place p

  abbrev placed : Doing → Name × CoreSteps → List FlowOp
  placed d q = plan_of (events.place_events tree locals (plans.doing_by d) q.0 q.1)

  pub by_place : (d : Doing) (p : PlaceExpr) → placed d (core_place p) ≡ plans.plan_place tree locals d p
  by_place d p = ap (placed d) (lemmas.opened_place p)

  -- ---- expressions

  abbrev planned : Doing → CoreExpr → List FlowOp
  planned d x = plan_of (events.expr_events tree locals (plans.doing_by d) x)

  pub expr_int : (d : Doing) (x : Expr) (z : ℤ) → (out-Expr x).kind ≡ expr.Int z → plans.plan_expr tree locals d x ≡ op.Skip ∷ []
  expr_int d x z h = ap (planned d) (lemmas.expr_int x z h)

  pub expr_bool : (d : Doing) (x : Expr) (b : Bool) → (out-Expr x).kind ≡ expr.Bool b → plans.plan_expr tree locals d x ≡ op.Skip ∷ []
  expr_bool d x b h = ap (planned d) (lemmas.expr_bool x b h)

  pub expr_path : (d : Doing) (x : Expr) (p : PlaceExpr) → (out-Expr x).kind ≡ expr.Path p → plans.plan_expr tree locals d x ≡ plans.plan_place tree locals d p
  expr_path d x p h = ap (planned d) (lemmas.expr_path x p h) ∙ by_place d p

  pub expr_call : (d : Doing) (x : Expr) (c : Call) → (out-Expr x).kind ≡ expr.Call c → plans.plan_expr tree locals d x ≡ plans.plan_call tree locals way.Calling c
  expr_call d x c h = ap (planned d) (lemmas.expr_call x c h)

  pub expr_await : (d : Doing) (x : Expr) (name : Name) → (out-Expr x).kind ≡ expr.Await name → plans.plan_expr tree locals d x ≡ plans.plan_handle tree locals event.Await name (out-Expr x).place
  expr_await d x name h = ap (planned d) (lemmas.expr_await x name h)

  pub expr_array_lit : (d : Doing) (x : Expr) (xs : List Expr) → (out-Expr x).kind ≡ expr.ArrayLit xs → plans.plan_expr tree locals d x ≡ plans.plan_parts tree locals xs
  expr_array_lit d x xs h = ap (planned d) (lemmas.expr_array_lit x xs h)

  pub expr_filled : (d : Doing) (x len value : Expr) → (out-Expr x).kind ≡ expr.Filled len value →
      plans.plan_expr tree locals d x ≡ op.Then ∷ (plans.plan_expr tree locals doing.Use len ++ plans.plan_expr tree locals doing.Use value)
  expr_filled d x len value h = ap (planned d) (lemmas.expr_filled x len value h)

  pub expr_count : (d : Doing) (x : Expr) (p : PlaceExpr) → (out-Expr x).kind ≡ expr.Count p → plans.plan_expr tree locals d x ≡ plans.plan_place tree locals doing.Use p
  expr_count d x p h = ap (planned d) (lemmas.expr_count x p h) ∙ by_place doing.Use p

  pub expr_lambda : (d : Doing) (x : Expr) (captures : List Name) (params : List Param) (result : Option Ty) (body : Block) → (out-Expr x).kind ≡ expr.Lambda captures params result body →
      plans.plan_expr tree locals d x ≡ plans.plan_captured tree locals captures
  expr_lambda d x captures params result body h = ap (planned d) (lemmas.expr_lambda x captures params result body h)

  pub expr_prefix : (d : Doing) (x : Expr) (o : Operator) (operand : Expr) → (out-Expr x).kind ≡ expr.Prefix o operand → plans.plan_expr tree locals d x ≡ plans.plan_expr tree locals doing.Use operand
  expr_prefix d x o operand h = ap (planned d) (lemmas.expr_prefix x o operand h)

  pub expr_chain : (d : Doing) (x first : Expr) (links : List (Operator × Place × Expr)) → (out-Expr x).kind ≡ expr.Chain first links →
      plans.plan_expr tree locals d x ≡ op.Then ∷ (plans.plan_expr tree locals doing.Use first ++ plans.plan_links tree locals links)
  expr_chain d x first links h = ap (planned d) (lemmas.expr_chain x first links h)

  -- ---- links and indices

  link_by : (short : Bool) (e : events.Events) → plan_of (if short then Either Skip e else e) ≡ plans.stop_before short ++ plan_of e
  link_by true e = refl
  link_by false e = refl

  pub links_next : (links : List (Operator × Place × Expr)) (i : ℕ) (l : Operator × Place × Expr) → i < length links → l ≡ get_or links i l →
      plans.plan_links tree locals (drop i links) ≡ (plans.stop_before (events.is_short l.0) ++ (op.Then ∷ plans.plan_expr tree locals doing.Use l.2)) ++ plans.plan_links tree locals (drop (i + 1) links)
  links_next links i l within is =
      ap (plans.plan_links tree locals) (first_left links i l within is)
      ∙ link_by (events.is_short l.0) (Then (events.expr_events tree locals events.uses (core_of l.2)) (events.link_events tree locals (core_links (drop (i + 1) links))))
      ∙ sym (append_assoc (plans.stop_before (events.is_short l.0)) (op.Then ∷ plans.plan_expr tree locals doing.Use l.2) (plans.plan_links tree locals (drop (i + 1) links)))

  pub index_field : (s : Step) (name : Name) → s ≡ step.Field name → plans.plan_index tree locals s ≡ []
  index_field s name h = ap (plans.plan_index tree locals) h ∙ ap (plans.first_index tree locals) (lemmas.step_field NoSteps name)

  pub index_index : (s : Step) (at : Place) (x : Expr) → s ≡ step.Index at x → plans.plan_index tree locals s ≡ op.Then ∷ plans.plan_expr tree locals doing.Use x
  index_index s at x h = ap (plans.plan_index tree locals) h ∙ ap (plans.first_index tree locals) (lemmas.step_index NoSteps at x)

  abbrev indexed : CoreSteps → List FlowOp
  indexed steps = plan_of (events.index_events tree locals steps)

  index_by : (s : Step) (rest : CoreSteps) (u : StepLayer) → out-Step s ≡ u → indexed (core_step s rest) ≡ plans.plan_index tree locals s ++ indexed rest
  index_by s rest (Step-F.Field name) e = ap indexed (lemmas.by_field s rest name e) ∙ sym (ap (λ c. plans.first_index tree locals c ++ indexed rest) (lemmas.by_field s NoSteps name e))
  index_by s rest (Step-F.Index at x) e = ap indexed (lemmas.by_index s rest at x e) ∙ sym (ap (λ c. plans.first_index tree locals c ++ indexed rest) (lemmas.by_index s NoSteps at x e))

  pub indices_next : (steps : List Step) (i : ℕ) (s : Step) → i < length steps → s ≡ get_or steps i s →
      plans.plan_indices tree locals (drop i steps) ≡ plans.plan_index tree locals s ++ plans.plan_indices tree locals (drop (i + 1) steps)
  indices_next steps i s within is = ap (plans.plan_indices tree locals) (first_left steps i s within is) ∙ index_by s (core_steps (drop (i + 1) steps)) (out-Step s) refl

  -- ---- calls and arguments

  abbrev callee_of : PlaceExpr → events.Callee
  callee_of p = events.callee_by tree (local_in locals (out-PlaceExpr p).root.text) (out-PlaceExpr p).root (core_steps (out-PlaceExpr p).steps)

  abbrev called : Way → Place → CoreArgs → Name × CoreSteps → List FlowOp
  called w at args q = plan_of (events.call_events tree locals (plans.way_by w) (CallOf q.0 q.1 at args))

  pub call_opened : (w : Way) (c : Call) →
      plans.plan_call tree locals w c ≡ op.Then ∷ (plans.plan_place tree locals doing.Use (out-Call c).callee ++ plans.plan_args tree locals w (out-Call c).paren (callee_of (out-Call c).callee) (out-Call c).args)
  call_opened w c =
      ap (λ (d : CoreCall). plan_of (events.call_events tree locals (plans.way_by w) d)) (lemmas.opened_call c)
      ∙ ap (called w (out-Call c).paren (core_args (out-Call c).args)) (lemmas.opened_place (out-Call c).callee)

  pub arg_value : (w : Way) (c : Option Conv) (d : Doing) (a : Arg) (x : Expr) → a ≡ arg.Value x → plans.doing_by d ≡ events.given (plans.way_by w) c → plans.plan_arg tree locals w c a ≡ plans.plan_expr tree locals d x
  arg_value w c d a x h g =
      ap (plans.plan_arg tree locals w c) h ∙ ap (plans.first_arg tree locals (plans.way_by w) c) (lemmas.arg_value NoArgs x) ∙ sym (ap (λ e. plan_of (events.expr_events tree locals e (core_of x))) g)

  pub arg_ref : (w : Way) (c : Option Conv) (d : Doing) (a : Arg) (at : Place) (p : PlaceExpr) → a ≡ arg.Ref at p → plans.doing_by d ≡ events.lent c → plans.plan_arg tree locals w c a ≡ plans.plan_place tree locals d p
  arg_ref w c d a at p h g =
      ap (plans.plan_arg tree locals w c) h ∙ ap (plans.first_arg tree locals (plans.way_by w) c) (lemmas.arg_ref NoArgs at p)
      ∙ sym (ap (λ e. plan_of (events.place_events tree locals e (core_place p).0 (core_place p).1)) g) ∙ by_place d p

  pub opens_value : (w : Way) (c : Option Conv) (a : Arg) (x : Expr) → a ≡ arg.Value x → plans.arg_opens tree locals w c a ≡ events.opens_place tree locals (plans.way_by w) c (core_of x)
  opens_value w c a x h = ap (plans.arg_opens tree locals w c) h ∙ ap (plans.first_opens tree locals (plans.way_by w) c) (lemmas.arg_value NoArgs x)

  pub opens_ref : (w : Way) (c : Option Conv) (a : Arg) (at : Place) (p : PlaceExpr) → a ≡ arg.Ref at p →
      plans.arg_opens tree locals w c a ≡ events.is_local tree locals (number_in locals (out-PlaceExpr p).root.text)
  opens_ref w c a at p h =
      ap (plans.arg_opens tree locals w c) h ∙ ap (plans.first_opens tree locals (plans.way_by w) c) (lemmas.arg_ref NoArgs at p)
      ∙ ap (λ (q : Name × CoreSteps). events.is_local tree locals (number_in locals q.0.text)) (lemmas.opened_place p)

  close_by : (w : Way) (b : Bool) (at : Place) (e : events.Events) →
      plan_of (events.with_close (plans.way_by w) b at e) ≡ plans.close_behind w b at ++ (plan_of e ++ plans.closes (plans.count_open (plans.stays_open w b)) at)
  close_by way.Calling false at e = sym (append-nil (plan_of e))
  close_by way.Spawning false at e = sym (append-nil (plan_of e))
  close_by way.Calling true at e = refl
  close_by way.Spawning true at e = ap (λ o. op.Then ∷ (op.Do event.Close at ∷ o)) (sym (append-nil (plan_of e)))

  abbrev args_planned : Way → Place → events.Callee → CoreArgs → List FlowOp
  args_planned w at callee args = plan_of (events.arg_events tree locals (plans.way_by w) at callee args)

  abbrev args_closed : Way → Place → events.Callee → CoreArgs → CoreArgs → List FlowOp
  args_closed w at callee rest a =
      op.Then ∷ (plans.first_arg tree locals (plans.way_by w) (events.next_conv callee) a ++
      plan_of (events.with_close (plans.way_by w) (plans.first_opens tree locals (plans.way_by w) (events.next_conv callee) a) at (events.arg_events tree locals (plans.way_by w) at (events.other_convs callee) rest)))

  args_by : (w : Way) (at : Place) (callee : events.Callee) (a : Arg) (rest : CoreArgs) (u : ArgLayer) → out-Arg a ≡ u → args_planned w at callee (core_arg a rest) ≡ args_closed w at callee rest (core_arg a NoArgs)
  args_by w at callee a rest (Arg-F.Value x) e = ap (args_planned w at callee) (lemmas.by_value a rest x e) ∙ sym (ap (args_closed w at callee rest) (lemmas.by_value a NoArgs x e))
  args_by w at callee a rest (Arg-F.Ref mark p) e = ap (args_planned w at callee) (lemmas.by_ref a rest mark p e) ∙ sym (ap (args_closed w at callee rest) (lemmas.by_ref a NoArgs mark p e))

  pub args_next : (w : Way) (at : Place) (callee : events.Callee) (args : List Arg) (i : ℕ) (a : Arg) → i < length args → a ≡ get_or args i a →
      plans.plan_args tree locals w at callee (drop i args) ≡
      op.Then ∷ (plans.plan_arg tree locals w (events.next_conv callee) a ++ (plans.close_behind w (plans.arg_opens tree locals w (events.next_conv callee) a) at ++
      (plans.plan_args tree locals w at (events.other_convs callee) (drop (i + 1) args) ++ plans.closes (plans.count_open (plans.stays_open w (plans.arg_opens tree locals w (events.next_conv callee) a))) at)))
  args_next w at callee args i a within is =
      ap (plans.plan_args tree locals w at callee) (first_left args i a within is)
      ∙ args_by w at callee a (core_args (drop (i + 1) args)) (out-Arg a) refl
      ∙ ap (λ o. op.Then ∷ (plans.plan_arg tree locals w (events.next_conv callee) a ++ o))
      (close_by w (plans.arg_opens tree locals w (events.next_conv callee) a) at (events.arg_events tree locals (plans.way_by w) at (events.other_convs callee) (core_args (drop (i + 1) args))))

  pub opens_true : (w : Way) (c : Option Conv) (a : Arg) (x : Expr) → a ≡ arg.Value x → events.opens (plans.way_by w) c ≡ true → plans.arg_opens tree locals w c a ≡ events.is_place tree locals (core_of x)
  opens_true w c a x h o = opens_value w c a x h ∙ ap (λ b. if b then events.is_place tree locals (core_of x) else false) o

  pub opens_false : (w : Way) (c : Option Conv) (a : Arg) (x : Expr) → a ≡ arg.Value x → events.opens (plans.way_by w) c ≡ false → plans.arg_opens tree locals w c a ≡ false
  opens_false w c a x h o = opens_value w c a x h ∙ ap (λ b. if b then events.is_place tree locals (core_of x) else false) o

  -- the next argument
  pub args_step : (w : Way) (at : Place) (callee others : events.Callee) (conv : Option Conv) (args : List Arg) (i : ℕ) (a : Arg) (n k : ℕ) (was now whole : List FlowOp) →
      i < length args → a ≡ get_or args i a → conv ≡ events.next_conv callee → others ≡ events.other_convs callee →
      now ≡ was ++ (op.Then ∷ (plans.plan_arg tree locals w conv a ++ plans.close_behind w (plans.arg_opens tree locals w conv a) at)) →
      k ≡ plans.count_open (plans.stays_open w (plans.arg_opens tree locals w conv a)) →
      was ++ (plans.plan_args tree locals w at callee (drop i args) ++ plans.closes n at) ≡ whole →
      now ++ (plans.plan_args tree locals w at others (drop (i + 1) args) ++ plans.closes (n + k) at) ≡ whole
  args_step w at callee others conv args i a n k was now whole within is ec eo en ek h =
      ap (λ o. now ++ (plans.plan_args tree locals w at o (drop (i + 1) args) ++ plans.closes (n + k) at)) eo
      ∙ arg_added was now (plans.plan_arg tree locals w (events.next_conv callee) a) (plans.close_behind w (plans.arg_opens tree locals w (events.next_conv callee) a) at)
      (plans.plan_args tree locals w at (events.other_convs callee) (drop (i + 1) args))
      (plans.closes (plans.count_open (plans.stays_open w (plans.arg_opens tree locals w (events.next_conv callee) a))) at) (plans.closes n at) (plans.closes (n + k) at)
      (plans.plan_args tree locals w at callee (drop i args)) whole op.Then
      (en ∙ ap (λ c. was ++ (op.Then ∷ (plans.plan_arg tree locals w c a ++ plans.close_behind w (plans.arg_opens tree locals w c a) at))) ec)
      (args_next w at callee args i a within is)
      (closes_two (plans.stays_open w (plans.arg_opens tree locals w (events.next_conv callee) a)) n k at (ek ∙ ap (λ c. plans.count_open (plans.stays_open w (plans.arg_opens tree locals w c a))) ec)) h
