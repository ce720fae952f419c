-- Accepted programs are never stuck: bodies, activations one in another, and the root.
use Rattle.std.proofs.Common.{◌≡◌, ℕ, zero, suc, Bool, true, false, ◌||◌, [], ◌∷◌, map, length, Option, Some, None, option_and_then, is_some, codes, arith, refl, sym, ap, ◌∙◌, subst}
use Rattle.hv_tree.specs.Core.{Core, CoreFun, CoreTy, CoreBlock, BlockOf, CoreStmts, NoStmts, StmtOf}
use Rattle.hv_decls.specs.Locals.{CoreBody, fun_body, param_local, entry_locals, locals_of}
use Rattle.hv_decls.specs.Sites.{body_scope, bodies_of}
use Rattle.hv_rules.specs.Accepted.{NamePhase, TypePhase, IsFirstOf}
use Rattle.hv_sem_copying.specs.Run.{Res, Now, Flow, ◌>>=◌}
use Rattle.hv_sem_copying.specs.Calls.{Deeper, ended}
use Rattle.hv_sem_copying.specs.Places.{body_number}
use Rattle.hv_sem_copying.specs.Evaluate.{block, body_run, body_by, bodies_run, activations}
use Rattle.hv_sem_copying.specs.Copying.{Locals, copying}
use Rattle.hv_sem_copying.specs.Meaning.{node_by, node_of, root_by, start, below_root, main_in, IsSafe}
use Rattle.hv_lemmas.proofs.Members.{Among, contained}
use Rattle.hv_law_formed.specs.Formed.{IsFormed, IsBody}
use Rattle.hv_law_safe.specs.Runs.{gives_back, ends_in_return, block_ends_in_return, Returns, Runs}
use Rattle.hv_law_safe.proofs.Ends.{Ends, e_is, e_trap, e_spent, Does, next, gives, counted}
use Rattle.hv_law_formed.proofs.Inside.{Good, good_fun}
use Rattle.hv_law_safe.proofs.Lists.{fun_found}
use Rattle.hv_law_safe.proofs.Accepted.{Accepted, accepted, body_numbered, Main, main_is}
use Rattle.hv_law_safe.proofs.Matches.{Matches}
use Rattle.hv_law_safe.proofs.Named.{used}
use Rattle.hv_law_safe.proofs.Pieces.{at_entry, block_sits}
use Rattle.hv_law_safe.proofs.Constructs.{Returned, BodyOk, DeeperOk}
use Rattle.hv_law_safe.proofs.Parts.{Leaves, has_return, block_returns, block_ok}

-- ---- bodies

one_returns : (xs : CoreStmts) → ends_in_return xs ≡ true → has_return xs ≡ true
one_returns NoStmts e = cc
one_returns (StmtOf x NoStmts) e = rw e refl
one_returns (StmtOf x (StmtOf y rest)) e = by (gives_back x) (one_returns (StmtOf y rest) e)
  where
    by : (b : Bool) → has_return (StmtOf y rest) ≡ true → (b || has_return (StmtOf y rest)) ≡ true
    by true f = refl
    by false f = f

block_one_returns : (b : CoreBlock) → block_ends_in_return b ≡ true → block_returns b ≡ true
block_one_returns (BlockOf stmts end) e = one_returns stmts e

never_falls : (tree : Core) (t : CoreTy) (must : Bool) → must ≡ true → Leaves tree (Some t) must None → ⊥
never_falls tree t true e h = h
never_falls tree t false e h = cc

ends : (tree : Core) {n : ℕ} {M : Locals → Type 0} (result : Option CoreTy) (b : CoreBlock) (flow : Flow) → Returns result b → Leaves tree result (block_returns b) flow → Does n M (λ y e. Returned tree result y × M e) (ended result flow)
ends tree None b flow r h = gives flow tt
ends tree (Some t) b None r h = absurd (never_falls tree t (block_returns b) (block_one_returns b r) h)
ends tree (Some t) b (Some v) r h = gives (Some v) h

module _ {tree : Core} (ok : Accepted tree) where
  body_ok : (deeper : Deeper (Unit {0}) Locals) → DeeperOk tree deeper → (b : CoreBody) → Good tree b → BodyOk tree b (body_run copying tree deeper b)
  body_ok deeper runs b g = record {
    ok = λ n. counted (length (locals_of b)) (subst (λ k. Does k (Matches tree b (entry_locals b) []) (λ y e. Returned tree b.result y × Matches tree b (entry_locals b) [] e) (block copying tree (locals_of b) deeper b.block >>= ended b.result)) none_more
        (next (block_ok ok b g deeper runs b.block (length (entry_locals b)) (body_scope b) (at_entry b g) (block_sits b) g.sites) (λ flow h.
        ends tree b.result b.block flow (ok.runs.returns b (contained (bodies_of tree) b g.listed)) h)));
  }
    where
      none_more : used b [] ≡ length (locals_of b)
      none_more = omega arith

  run_ok : (n : ℕ) → DeeperOk tree (activations copying tree n) → (f : ℕ) (b : CoreBody) → IsBody tree f b → Good tree b → BodyOk tree b (bodies_run copying tree (activations copying tree n) f)
  run_ok n runs f b i g = subst (λ o. BodyOk tree b (body_by copying tree (activations copying tree n) o)) (sym i) (body_ok (activations copying tree n) runs b g)

  -- by depth: a body rests on those that may be entered from it
  pub all_ok : (n : ℕ) → DeeperOk tree (activations copying tree n)
  all_ok zero = tt
  all_ok (suc n) = run_ok n (all_ok n)

  -- ---- the root

  nothing_yet : (f : CoreFun) (budget : ℕ) → f.params ≡ [] → Matches tree (fun_body f) (entry_locals (fun_body f)) [] (start budget).own
  nothing_yet f budget e = record { here = λ l x t i. absurd (subst (λ ps. Among (map param_local ps) l) e i); lent = λ i t at. cc }

  node_there : {Q : Flow → Locals → Type 0} (budget : ℕ) {x : Res (Now Locals × Flow)} → Ends Q x → is_some (node_by budget x) ≡ true
  node_there budget (e_is h) = refl
  node_there budget e_trap = refl
  node_there budget e_spent = refl

  root_there : (budget : ℕ) (m : Main tree) → is_some (root_by tree budget (main_in tree)) ≡ true
  root_there budget m =
      let g = good_fun tree m.main (fun_found tree.decls (codes "main") m.main m.found).0 in
      let n = body_numbered ok (fun_body m.main) g.listed in
      let is : main_in tree ≡ Some n.0 = ap (option_and_then (λ (f : CoreFun). body_number (bodies_of tree) f.body)) m.found ∙ n.1 in
      subst (λ o. is_some (root_by tree budget o) ≡ true) (sym is)
      (node_there budget (((run_ok below_root (all_ok below_root) n.0 (fun_body m.main) n.2 g).ok 0).does (start budget) (nothing_yet m.main budget m.no_params)))

  pub never_stuck : IsSafe tree
  unfolding node_of
  never_stuck = record { never_stuck = λ budget. root_there budget (main_is ok) }

pub accepted_safe : (tree : Core) → IsFormed tree → IsFirstOf (NamePhase ∷ TypePhase ∷ []) tree None → Runs tree → IsSafe tree
accepted_safe tree f v r = never_stuck (accepted tree f v r)
