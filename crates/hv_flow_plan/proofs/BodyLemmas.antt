-- The plan of a body is the flow of its events.
use Rattle.std.proofs.Common.{◌≡◌, List, [], ◌∷◌, ◌++◌, length, refl, sym, ap, ◌∙◌, Result, Ok, Err, IfOk}
use Rattle.hv_tree.specs.declared.ast.Block.{Block}
use Rattle.hv_tree.specs.Core.{Core, CoreBlock, core_block}
use Rattle.hv_tree.proofs.CoreLemmas as lemmas
use Rattle.hv_rules.specs.declared.event.FlowEvent.TheVariants as event
use Rattle.hv_decls.specs.Locals.{Local, CoreBody, entry_locals, locals_of}
use Rattle.hv_rules.specs.Events as events
use Rattle.hv_tree.specs.Core as core
use Rattle.hv_flow_plan.specs.declared.plan.FlowOp.{FlowOp}
use Rattle.hv_flow_plan.specs.declared.plan.FlowOp.TheVariants as op
use Rattle.hv_flow_plan.specs.Spelling.{plan_of, plan_of_body}
use Rattle.hv_flow_plan.specs.StmtPlans.{around}
use Rattle.hv_flow_plan.specs.BodyPlans.{body_plan}
use Rattle.hv_flow_plan.proofs.Around.{same_stmts}

abbrev framed : List Local → CoreBlock → List FlowOp → List FlowOp
framed entry k stmts = op.Then ∷ (op.Do event.Entry (core.end_of k) ∷ (op.Then ∷ (plan_of (events.entry_events 0 entry) ++ (op.Then ∷ (stmts ++ op.Do (event.ScopeEnd (length entry)) (core.end_of k) ∷ [])))))

abbrev by_core : Core → List Local → List Local → CoreBlock → List FlowOp
by_core tree entry locals k = framed entry k (plan_of (events.stmts_events tree locals (around (length entry)) (core.stmts_in k)))

pub body_same : (tree : Core) (entry locals : List Local) (b : Block) (body : CoreBody) → entry ≡ entry_locals body → locals ≡ locals_of body → body.block ≡ core_block b →
    body_plan tree entry locals b ≡ plan_of_body tree body
body_same tree entry locals b body e f h =
    ap (λ l. body_plan tree l locals b) e
    ∙ ap (λ l. body_plan tree (entry_locals body) l b) f
    ∙ sym (ap (framed (entry_locals body) body.block) (same_stmts tree (locals_of body) (events.body_around body) (around (length (entry_locals body))) refl (core.stmts_in body.block))
    ∙ ap (by_core tree (entry_locals body) (locals_of body)) h
    ∙ ap (by_core tree (entry_locals body) (locals_of body)) (lemmas.opened_block b))

-- an answer is the same by another name
pub ok_same : {T E : Type 0} (r : Result T E) (a b : T) → a ≡ b → IfOk r (λ p. p ≡ a) → IfOk r (λ p. p ≡ b)
ok_same (Ok p) a b e h = h ∙ e
ok_same (Err x) a b e h = h
