-- The ends that a walk over statements tells are those of their events.
use Rattle.std.proofs.Common.{◌≡◌, ◌⊎◌, inl, inr, ℕ, ◌+◌, Bool, false, List, [], ◌∷◌, ◌++◌, length, Contains, refl, sym, subst, append-nil}
use Rattle.std.proofs.lemmas.List.Elements.{Contains-append_left, Contains-append_right, Contains-append_cases}
use Rattle.hv_tree.specs.declared.place.Place.{Place}
use Rattle.hv_tree.specs.Core.{Core, CoreBlock, BlockOf, CoreStmts, NoStmts, StmtOf, CoreBranches, NoElse, Else, BranchOf, CoreStmt, Var, VarWith, Let, Inout, Assign, If, While, Return, ReturnWith, Print, Task, AwaitsAlone, CallsAlone, Bare}
use Rattle.hv_rules.specs.declared.event.FlowEvent.TheVariants as event
use Rattle.hv_rules.specs.Flow.{Skip, Do, Then, Either, Loop}
use Rattle.hv_decls.specs.Locals.{Local, CoreBody, entry_locals, locals_of, declared_in, in_block, binds, number_in}
use Rattle.hv_rules.specs.Events as events
use Rattle.hv_tree.specs.Core as core
use Rattle.hv_flow_ends.specs.Ends.{ends_in, Alike, Agree, AllAgree}
use Rattle.hv_flow_ends.specs.Walked as walked
use Rattle.hv_flow_ends.proofs.Quiet.{IsPlain, IsTidy, Each, no_ends, all_tidy}
use Rattle.hv_flow_ends.proofs.Quiet as quiet

-- ---- lists of the same numbers

same : (xs : List ℕ) → Alike xs xs
same xs n = (λ h. h, λ h. h)

-- what is added behind one and before the other
turned : (xs ys zs : List ℕ) → Alike xs ys → Alike (xs ++ zs) (zs ++ ys)
turned xs ys zs a n = (λ h. there (Contains-append_cases xs zs n h), λ h. back (Contains-append_cases zs ys n h))
  where
    there : Contains xs n ⊎ Contains zs n → Contains (zs ++ ys) n
    there (inl h) = Contains-append_right zs ys n ((a n).0 h)
    there (inr h) = Contains-append_left zs ys n h

    back : Contains zs n ⊎ Contains ys n → Contains (xs ++ zs) n
    back (inl h) = Contains-append_right xs zs n h
    back (inr h) = Contains-append_left xs zs n ((a n).1 h)

-- ---- ends that agree with those of a flow

both : (us bs cs ds : List events.Belongs) → AllAgree us bs → AllAgree cs ds → AllAgree (us ++ cs) (bs ++ ds)
both [] [] cs ds h g = g
both [] (b ∷ bs) cs ds h g = absurd h
both (a ∷ us) [] cs ds h g = absurd h
both (a ∷ us) (b ∷ bs) cs ds h g = (h.0, both us bs cs ds h.1 g)

-- a flow all of whose marks are tidy, and whose ends agree with these
pub record Fits (us : List events.Belongs) (f : events.Events) : Type 0 where
  pub tidy : Each IsTidy f
  pub ends : AllAgree us (ends_in f)

nothing_ends : (f : events.Events) → Each IsPlain f → Fits [] f
nothing_ends f h = record { tidy = all_tidy f h; ends = subst (λ es. AllAgree [] es) (sym (no_ends f h)) tt }

one_then : (us cs : List events.Belongs) (f g : events.Events) → Fits us f → Fits cs g → Fits (us ++ cs) (Then f g)
one_then us cs f g h k = record { tidy = (h.tidy, k.tidy); ends = both us (ends_in f) cs (ends_in g) h.ends k.ends }

one_of : (us cs : List events.Belongs) (f g : events.Events) → Fits us f → Fits cs g → Fits (us ++ cs) (Either f g)
one_of us cs f g h k = record { tidy = (h.tidy, k.tidy); ends = both us (ends_in f) cs (ends_in g) h.ends k.ends }

turns_of : (us : List events.Belongs) (f : events.Events) → Fits us f → Fits us (Loop f)
turns_of us f h = record { tidy = h.tidy; ends = h.ends }

-- plain marks before, or behind
after_plain : (us : List events.Belongs) (f g : events.Events) → Each IsPlain f → Fits us g → Fits us (Then f g)
after_plain us f g h k = one_then [] us f g (nothing_ends f h) k

before_plain : (us : List events.Belongs) (f g : events.Events) → Fits us f → Each IsPlain g → Fits us (Then f g)
before_plain us f g h k = subst (λ es. Fits es (Then f g)) (append-nil us) (one_then us [] f g h (nothing_ends g k))

ended : (a b : events.Belongs) → Agree a b → AllAgree (a ∷ []) (b ∷ [])
ended a b h = (h, tt)

at_end : (back back' handles handles' : List ℕ) (missing : Bool) → Alike back back' → Alike handles handles' → Agree (events.ToEnd back handles missing) (events.ToEnd back' handles' missing)
at_end back back' handles handles' missing h g = record { back = h; handles = g; missing = refl }

-- ---- statements

abbrev standing : ℕ → List ℕ → List ℕ → walked.Standing
standing n b h = record { next = n; back = b; handles = h }

abbrev around : ℕ → List ℕ → List ℕ → events.Around
around n b h = record { next = n; back = b; handles = h }

module _ (tree : Core) (locals : List Local) where
  return_fits : (n : ℕ) (b c h k : List ℕ) → Alike b c → Alike h k → (at : Place) → Fits (events.ToEnd b h false ∷ []) (events.return_at tree locals (around n c k) at)
  return_fits n b c h k lb lh at = record { tidy = inl refl; ends = ended _ _ (at_end b c h k false lb lh) }

  mutual
    pub stmt_fits : (n : ℕ) (b c h k : List ℕ) → Alike b c → Alike h k → (x : CoreStmt) → Fits (walked.stmt_ends (standing n b h) x) (events.stmt_events tree locals (around n c k) x)
    stmt_fits n b c h k lb lh (Var at name t) = nothing_ends (Do (events.mark (event.Declare n) name.place)) (refl, refl, refl, refl)
    stmt_fits n b c h k lb lh (VarWith at name t x) = nothing_ends (Then (events.value_events tree locals x) (events.declared n name)) (quiet.expr tree locals events.uses x quiet.uses, quiet.declared n name)
    stmt_fits n b c h k lb lh (Let at name t x) =
        nothing_ends (Then (events.expr_events tree locals (λ p root. events.declaring n (event.OpenRead p) root) x) (events.declared n name))
        (quiet.expr tree locals (λ p root. events.declaring n (event.OpenRead p) root) x (λ p root. (refl, refl, refl, refl)), quiet.declared n name)
    stmt_fits n b c h k lb lh (Inout at name t root steps) =
        nothing_ends (Then (events.place_events tree locals (λ p r. events.declaring n (event.OpenWrite p) r) root steps) (events.declared n name))
        (quiet.place tree locals (λ p r. events.declaring n (event.OpenWrite p) r) root steps (λ p r. (refl, refl, refl, refl)), quiet.declared n name)
    stmt_fits n b c h k lb lh (Assign at root steps x) =
        nothing_ends (Then (events.value_events tree locals x) (events.place_events tree locals events.inits root steps))
        (quiet.expr tree locals events.uses x quiet.uses, quiet.place tree locals events.inits root steps quiet.inits)
    stmt_fits n b c h k lb lh (If at branches) = branches_fit n b c h k lb lh branches
    stmt_fits n b c h k lb lh (While at test body) =
        before_plain (walked.block_ends (standing n b h) body) (Loop (Then (events.value_events tree locals test) (events.block_events tree locals (around n c k) body))) (events.value_events tree locals test)
        (turns_of (walked.block_ends (standing n b h) body) (Then (events.value_events tree locals test) (events.block_events tree locals (around n c k) body))
        (after_plain (walked.block_ends (standing n b h) body) (events.value_events tree locals test) (events.block_events tree locals (around n c k) body) (quiet.expr tree locals events.uses test quiet.uses)
        (block_fits n b c h k lb lh body)))
        (quiet.expr tree locals events.uses test quiet.uses)
    stmt_fits n b c h k lb lh (Return at) = return_fits n b c h k lb lh at
    stmt_fits n b c h k lb lh (ReturnWith at x) =
        after_plain (events.ToEnd b h false ∷ []) (events.value_events tree locals x) (events.return_at tree locals (around n c k) at) (quiet.expr tree locals events.uses x quiet.uses) (return_fits n b c h k lb lh at)
    stmt_fits n b c h k lb lh (Print at x) = nothing_ends (events.value_events tree locals x) (quiet.expr tree locals events.uses x quiet.uses)
    stmt_fits n b c h k lb lh (Task at name t spawn budget call) =
        nothing_ends (Then (events.value_events tree locals budget) (Then (events.call_events tree locals events.BySpawn call) (Do (events.mark (event.Spawn n) spawn))))
        (quiet.expr tree locals events.uses budget quiet.uses, (quiet.call tree locals events.BySpawn call, (refl, refl, refl, refl)))
    stmt_fits n b c h k lb lh (AwaitsAlone at name) = nothing_ends (events.awaited tree locals name at) (quiet.awaited tree locals (number_in locals name.text) at)
    stmt_fits n b c h k lb lh (CallsAlone at call) = nothing_ends (events.call_events tree locals events.ByCall call) (quiet.call tree locals events.ByCall call)
    stmt_fits n b c h k lb lh (Bare at block) = block_fits n b c h k lb lh block

    pub branches_fit : (n : ℕ) (b c h k : List ℕ) → Alike b c → Alike h k → (x : CoreBranches) → Fits (walked.branch_ends (standing n b h) x) (events.branch_events tree locals (around n c k) x)
    branches_fit n b c h k lb lh NoElse = nothing_ends Skip tt
    branches_fit n b c h k lb lh (Else block) = block_fits n b c h k lb lh block
    branches_fit n b c h k lb lh (BranchOf test body rest) =
        after_plain (walked.block_ends (standing n b h) body ++ walked.branch_ends (standing (n + length (in_block body)) b h) rest) (events.value_events tree locals test)
        (Either (events.block_events tree locals (around n c k) body) (events.branch_events tree locals (around (n + length (in_block body)) c k) rest)) (quiet.expr tree locals events.uses test quiet.uses)
        (one_of (walked.block_ends (standing n b h) body) (walked.branch_ends (standing (n + length (in_block body)) b h) rest) (events.block_events tree locals (around n c k) body)
        (events.branch_events tree locals (around (n + length (in_block body)) c k) rest) (block_fits n b c h k lb lh body) (branches_fit (n + length (in_block body)) b c h k lb lh rest))

    pub block_fits : (n : ℕ) (b c h k : List ℕ) → Alike b c → Alike h k → (x : CoreBlock) → Fits (walked.block_ends (standing n b h) x) (events.block_events tree locals (around n c k) x)
    block_fits n b c h k lb lh (BlockOf stmts end) =
        one_then (walked.stmts_ends (standing n b (h ++ walked.own_handles n stmts)) stmts) (events.ToEnd (walked.own_back n stmts) (walked.own_handles n stmts) false ∷ [])
        (events.stmts_events tree locals (around n c (walked.own_handles n stmts ++ k)) stmts) (events.scope_end tree locals (around n c k) stmts end)
        (stmts_fit n b c (h ++ walked.own_handles n stmts) (walked.own_handles n stmts ++ k) lb (turned h k (walked.own_handles n stmts) lh) stmts)
        (record { tidy = inl refl; ends = ended _ _ (at_end (walked.own_back n stmts) (walked.own_back n stmts) (walked.own_handles n stmts) (walked.own_handles n stmts) false (same _) (same _)) })

    pub stmts_fit : (n : ℕ) (b c h k : List ℕ) → Alike b c → Alike h k → (x : CoreStmts) → Fits (walked.stmts_ends (standing n b h) x) (events.stmts_events tree locals (around n c k) x)
    stmts_fit n b c h k lb lh NoStmts = nothing_ends Skip tt
    stmts_fit n b c h k lb lh (StmtOf x rest) =
        one_then (walked.stmt_ends (standing n b h) x) (walked.stmts_ends (walked.behind x (standing n b h)) rest) (events.stmt_events tree locals (around n c k) x)
        (events.stmts_events tree locals (events.behind x (around n c k)) rest) (stmt_fits n b c h k lb lh x)
        (stmts_fit (n + length (declared_in x)) (b ++ events.if_kind events.is_written_back n (binds x)) (events.if_kind events.is_written_back n (binds x) ++ c) h k
        (turned b c (events.if_kind events.is_written_back n (binds x)) lb) lh rest)

-- ---- bodies

pub body_fits : (tree : Core) (body : CoreBody) → Fits (walked.body_ends body) (events.body_events tree body)
body_fits tree body =
    let n = walked.first_own body in
    let stmts = core.stmts_in body.block in
    let back = walked.entry_back body in
    let handles = walked.own_handles n stmts in
    after_plain (walked.body_ends body) (events.entry_events 0 (entry_locals body))
    (Then (events.stmts_events tree (locals_of body) (events.body_around body) stmts) (Do (events.body_end body (events.body_around body)))) (quiet.entries 0 (entry_locals body))
    (one_then (walked.stmts_ends (walked.body_standing body) stmts) (events.ToEnd (back ++ walked.own_back n stmts) handles (events.has_some body.result) ∷ [])
    (events.stmts_events tree (locals_of body) (events.body_around body) stmts) (Do (events.body_end body (events.body_around body)))
    (stmts_fit tree (locals_of body) n back back handles handles (same back) (same handles) stmts)
    (record { tidy = inl refl; ends = ended _ _ (at_end (back ++ walked.own_back n stmts) (walked.own_back n stmts ++ back) handles handles (events.has_some body.result) (turned back back (walked.own_back n stmts) (same back)) (same handles)) }))

pub ends_agree : (ends : List events.Belongs) (body : CoreBody) → ends ≡ walked.body_ends body → (tree : Core) → AllAgree ends (ends_in (events.body_events tree body))
ends_agree ends body e tree = subst (λ es. AllAgree es (ends_in (events.body_events tree body))) (sym e) (body_fits tree body).ends
