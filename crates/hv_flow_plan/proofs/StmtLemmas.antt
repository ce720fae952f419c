-- Blocks, lists of statements and branches, as code meets them.
use Rattle.std.proofs.Common.{◌≡◌, ℕ, List, [], ◌∷◌, ◌++◌, ◌+◌, ◌<◌, length, drop, get_or, Option, Some, None, refl, sym, ap, ◌∙◌, append_assoc, length-append, arith}
use Rattle.hv_tree.specs.declared.ast.Block.{Block, out-Block}
use Rattle.hv_tree.specs.declared.ast.Branch.{Branch, out-Branch}
use Rattle.hv_tree.specs.declared.ast.Stmt.{Stmt}
use Rattle.hv_tree.specs.Core.{Core, CoreBlock, CoreBranches, core_stmt, core_stmts, core_block, core_branch, core_branches}
use Rattle.hv_tree.proofs.CoreLemmas as lemmas
use Rattle.hv_rules.specs.declared.event.FlowEvent.TheVariants as event
use Rattle.hv_decls.specs.Locals.{Local, declared_in, in_block, in_branches, in_stmts}
use Rattle.hv_rules.specs.Events as events
use Rattle.hv_flow_plan.specs.declared.plan.FlowOp.{FlowOp}
use Rattle.hv_flow_plan.specs.declared.plan.FlowOp.TheVariants as op
use Rattle.hv_flow_plan.specs.declared.doing.Doing.TheVariants as doing
use Rattle.hv_flow_plan.specs.Spelling.{plan_of}
use Rattle.hv_flow_plan.specs.Plans as exprs
use Rattle.hv_flow_plan.specs.StmtPlans as plans
use Rattle.hv_lemmas.proofs.Lists.{first_left}
use Rattle.hv_flow_plan.proofs.Around.{same_stmts, same_branches}

module _ (tree : Core) (locals : List Local) where
  abbrev blocked : ℕ → CoreBlock → List FlowOp
  blocked n b = plan_of (events.block_events tree locals (plans.around n) b)

  pub block_plan : (n : ℕ) (b : Block) → plans.plan_block tree locals n b ≡ op.Then ∷ (plans.plan_stmts tree locals n (out-Block b).stmts ++ op.Do (event.ScopeEnd n) (out-Block b).end ∷ [])
  block_plan n b =
      ap (blocked n) (lemmas.opened_block b)
      ∙ ap (λ o. op.Then ∷ (o ++ op.Do (event.ScopeEnd n) (out-Block b).end ∷ []))
      (same_stmts tree locals (events.entered (core_stmts (out-Block b).stmts) (plans.around n)) (plans.around n) refl (core_stmts (out-Block b).stmts))

  pub stmts_next : (n : ℕ) (stmts : List Stmt) (i : ℕ) (s : Stmt) → i < length stmts → s ≡ get_or stmts i s →
      plans.plan_stmts tree locals n (drop i stmts) ≡ (op.Then ∷ plans.plan_stmt tree locals n s) ++ plans.plan_stmts tree locals (n + plans.stmt_locals s) (drop (i + 1) stmts)
  stmts_next n stmts i s within is =
      ap (plans.plan_stmts tree locals n) (first_left stmts i s within is)
      ∙ ap (λ o. op.Then ∷ (plans.plan_stmt tree locals n s ++ o))
      (same_stmts tree locals (events.behind (core_stmt s) (plans.around n)) (plans.around (n + plans.stmt_locals s)) refl (core_stmts (drop (i + 1) stmts)))

  abbrev branched : ℕ → CoreBranches → List FlowOp
  branched n b = plan_of (events.branch_events tree locals (plans.around n) b)

  branch_first : (n : ℕ) (b : Branch) (rest : CoreBranches) → branched n (core_branch b rest) ≡ plans.plan_branch tree locals n b ++ branched (n + plans.branch_locals b) rest
  branch_first n b rest =
      ap (branched n) (lemmas.opened_branch b rest)
      ∙ ap (λ o. op.Then ∷ (exprs.plan_expr tree locals doing.Use (out-Branch b).test ++ (op.Either ∷ (plans.plan_block tree locals n (out-Branch b).body ++ o))))
      (same_branches tree locals (events.behind_block (core_block (out-Branch b).body) (plans.around n)) (plans.around (n + plans.branch_locals b)) refl rest)
      ∙ sym (ap (λ o. op.Then ∷ o) (append_assoc (exprs.plan_expr tree locals doing.Use (out-Branch b).test) (op.Either ∷ plans.plan_block tree locals n (out-Branch b).body) (branched (n + plans.branch_locals b) rest)))

  else_plan : (n : ℕ) (otherwise : Option Block) → plans.plan_branches tree locals n [] otherwise ≡ plans.plan_else tree locals (n + 0) otherwise
  else_plan n None = refl
  else_plan n (Some b) = let e : n + 0 ≡ n = omega arith in ap (λ m. plans.plan_block tree locals m b) (sym e)

  pub tests_plan : (n : ℕ) (otherwise : Option Block) (branches : List Branch) →
      plans.plan_branches tree locals n branches otherwise ≡ plans.plan_tests tree locals n branches ++ plans.plan_else tree locals (n + plans.tests_locals branches) otherwise
  tests_plan n otherwise [] = else_plan n otherwise
  tests_plan n otherwise (b ∷ rest) =
      let e : (n + plans.branch_locals b) + plans.tests_locals rest ≡ n + (plans.branch_locals b + plans.tests_locals rest) = omega arith in
      branch_first n b (core_branches rest otherwise)
      ∙ ap (λ o. plans.plan_branch tree locals n b ++ o) (tests_plan (n + plans.branch_locals b) otherwise rest ∙ ap (λ m. plans.plan_tests tree locals (n + plans.branch_locals b) rest ++ plans.plan_else tree locals m otherwise) e)
      ∙ sym (append_assoc (plans.plan_branch tree locals n b) (plans.plan_tests tree locals (n + plans.branch_locals b) rest) (plans.plan_else tree locals (n + (plans.branch_locals b + plans.tests_locals rest)) otherwise))

  pub tests_next : (n : ℕ) (branches : List Branch) (i : ℕ) (b : Branch) → i < length branches → b ≡ get_or branches i b →
      plans.plan_tests tree locals n (drop i branches) ≡ plans.plan_branch tree locals n b ++ plans.plan_tests tree locals (n + plans.branch_locals b) (drop (i + 1) branches)
  tests_next n branches i b within is = ap (plans.plan_tests tree locals n) (first_left branches i b within is)

-- ---- how many locals

pub block_counted : (b : Block) → plans.block_locals b ≡ plans.stmts_locals (out-Block b).stmts
block_counted b = ap (λ c. length (in_block c)) (lemmas.opened_block b)

pub stmts_counted : (stmts : List Stmt) (i : ℕ) (s : Stmt) → i < length stmts → s ≡ get_or stmts i s → plans.stmts_locals (drop i stmts) ≡ plans.stmt_locals s + plans.stmts_locals (drop (i + 1) stmts)
stmts_counted stmts i s within is = ap plans.stmts_locals (first_left stmts i s within is) ∙ length-append (declared_in (core_stmt s)) (in_stmts (core_stmts (drop (i + 1) stmts)))

pub tests_counted_next : (branches : List Branch) (i : ℕ) (b : Branch) → i < length branches → b ≡ get_or branches i b → plans.tests_locals (drop i branches) ≡ plans.branch_locals b + plans.tests_locals (drop (i + 1) branches)
tests_counted_next branches i b within is = ap plans.tests_locals (first_left branches i b within is)

else_counted : (otherwise : Option Block) → plans.branches_locals [] otherwise ≡ plans.else_locals otherwise
else_counted None = refl
else_counted (Some b) = refl

pub tests_counted : (otherwise : Option Block) (branches : List Branch) → plans.branches_locals branches otherwise ≡ plans.tests_locals branches + plans.else_locals otherwise
tests_counted otherwise [] = let e : 0 + plans.else_locals otherwise ≡ plans.else_locals otherwise = omega arith in else_counted otherwise ∙ sym e
tests_counted otherwise (b ∷ rest) =
    let opened : plans.branches_locals (b ∷ rest) otherwise ≡ plans.branch_locals b + plans.branches_locals rest otherwise =
    ap (λ c. length (in_branches c)) (lemmas.opened_branch b (core_branches rest otherwise)) ∙ length-append (in_block (core_block (out-Branch b).body)) (in_branches (core_branches rest otherwise)) in
    omega (arith, opened, tests_counted otherwise rest)
