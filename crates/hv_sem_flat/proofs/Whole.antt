-- The whole tree: both forms do the same.
use Rattle.std.proofs.Common.{◌≡◌, ℕ, pos, if◌then◌else◌, List, [], ◌∷◌, ◌++◌, Option, Some, None, refl, sym, ap, ◌∙◌}
use Rattle.hv_tree.specs.declared.place.Place.{Place}
use Rattle.hv_tree.specs.declared.types.Name.{Name}
use Rattle.hv_tree.specs.declared.types.Conv.{Conv}
use Rattle.hv_tree.specs.declared.types.Conv.TheVariants as conv
use Rattle.hv_decls.specs.declared.path.StaticStep.{StaticStep}
use Rattle.hv_tree.specs.Core.{Core, CoreParam, CoreExpr, Number, Truth, Path, Calls, Awaits, Array, Filled, Count, Lambda, Prefix, Chain, CoreExprs, NoExprs, ExprOf, CoreLinks, NoLinks, LinkOf, CoreSteps, NoSteps, FieldStep, IndexStep, CoreCall, CallOf, CoreArgs, NoArgs, ValueArg, RefArg, CoreBlock, BlockOf, CoreStmts, NoStmts, StmtOf, CoreBranches, NoElse, Else, BranchOf, CoreStmt, Var, VarWith, Let, Inout, Assign, If, While, Return, ReturnWith, Print, Task, AwaitsAlone, CallsAlone, Bare}
use Rattle.hv_decls.specs.Types.{ValueType}
use Rattle.hv_decls.specs.Locals.{Local, CoreBody, number_in}
use Rattle.hv_decls.specs.Sites.{bodies_of}
use Rattle.hv_decls.specs.Statics.{field_at, element_at}
use Rattle.hv_value.specs.ValueTree.{ValueTree, Fields, Elements, Closure, Parts, Nil, row}
use Rattle.hv_value.specs.ValueTree as v
use Rattle.hv_value.specs.Texts.{text}
use Rattle.hv_value.specs.Walk.{Link, ToField, ToIndex}
use Rattle.hv_sem_copying.specs.declared.end.Cause.TheVariants.{Kinds}
use Rattle.hv_sem_copying.specs.Run.{Flow, ◌>>=◌, pure, stuck, known, pay, say, counted_from, unless_left}
use Rattle.hv_sem_copying.specs.Ops as ops
use Rattle.hv_sem_copying.specs.Ops.{Mode, Reads, Writes, Passed, Value}
use Rattle.hv_sem_copying.specs.Operations.{number, applied}
use Rattle.hv_value.specs.Operators.{binary, decides}
use Rattle.hv_sem_copying.specs.Copying.{Locals, copying}
use Rattle.hv_sem_copying.specs.Places.{holes, body_number, type_of}
use Rattle.hv_sem_copying.specs.Places as def_places
use Rattle.hv_sem_copying.specs.Calls.{Deeper, Callee, Constructs, Enters, passed_captures, body_of, entered, child_by, spawned}
use Rattle.hv_sem_copying.specs.Calls as def_calls
use Rattle.hv_sem_copying.specs.Blocks.{first_token, chosen, repeated, bound}
use Rattle.hv_sem_copying.specs.Evaluate as def
use Rattle.hv_sem_flat.specs.Accesses.{Plain, Spot, put_at, Access, access, opened, shut}
use Rattle.hv_sem_flat.specs.Parts as parts
use Rattle.hv_sem_flat.specs.Parts.{Given, counting, Went, Leaves, Goes, Opens, flowed, went, opening}
use Rattle.hv_sem_flat.specs.Flat as flat
use Rattle.hv_sem_copying.proofs.RunLaws.{bind_assoc, pure_then, then_pure}
use Rattle.hv_sem_flat.proofs.Runs.{both, later, split, stuck_first, counted_stuck}
use Rattle.hv_sem_flat.proofs.Spots.{written_spot, Sees, seen_then, place_then, wrote, shut_nothing, under_shut}
use Rattle.hv_sem_flat.proofs.Constructs.{none_more, one_more, found_sees, copied_same, moved_then, named_same, Placed, placed_if, captured_same, value_passes, place_passes, finish, Steady, args_step, counted_same_all}

-- ---- calls and spawns over equal parts

callee_same : (tree : Core) (o : Option ℕ) (root : Name) (steps : CoreSteps) (P : Plain (ops.Spot × ValueTree)) (Q : Plain Spot) → Sees P Q → def_calls.callee tree o root steps P ≡ parts.callee tree o root steps Q
callee_same tree None root steps P Q h = refl
callee_same tree (Some x) root steps P Q h = both (copied_same root.place P Q h) (λ w. refl)

called_same : (tree : Core) (who : Callee) (p q : Plain (List ValueTree)) (f g : ℕ → Parts → CoreBody → Plain Flow) → p ≡ q → ((n : ℕ) (captures : Parts) (body : CoreBody) → f n captures body ≡ g n captures body) → def_calls.call_by tree who p f ≡ def_calls.call_by tree who q g
called_same tree Constructs p q f g e h = both e (λ ws. refl)
called_same tree (Enters n captures) p q f g e h = later (body_of tree n) (λ body. both (h n captures body) (λ flow. refl))

child_same : (tree : Core) (who : Callee) (f g : ℕ → Parts → CoreBody → Plain (List Passed)) → ((n : ℕ) (captures : Parts) (body : CoreBody) → f n captures body ≡ g n captures body) → child_by tree who f ≡ child_by tree who g
child_same tree Constructs f g h = refl
child_same tree (Enters n captures) f g h = later (body_of tree n) (λ body. both (h n captures body) (λ ps. refl))

own_same : (c : Conv) (P : Option (Plain (ops.Spot × ValueTree))) (Q : Option (Plain Spot)) (x y : Plain ValueTree) → Placed P Q → x ≡ y → def_calls.own_value copying c P x ≡ parts.own_value c Q y
own_same conv.Let P Q x y h e = both e (λ w. refl)
own_same conv.Sink (Some P) (Some Q) x y h e = moved_then P Q h (λ w. pure (Value Writes w))
own_same conv.Sink None None x y h e = both e (λ w. refl)
own_same conv.Sink (Some P) None x y h e = absurd h
own_same conv.Sink None (Some Q) x y h e = absurd h
own_same conv.Inout P Q x y h e = refl
own_same conv.Set P Q x y h e = refl

-- ---- statements over equal parts

-- the rest of a block behind a statement, and then the closing of what is open
abbrev rest_of : List Access → Plain Flow → Went → Plain Flow
rest_of opens go (Leaves w) = shut opens (Some w)
rest_of opens go Goes = go >>= shut opens
rest_of opens go (Opens a) = go >>= shut (a ∷ opens)

-- a statement with the rest of its block, and one of the other form
abbrev Does : List Access → Plain Flow → Plain Flow → Plain Went → Type 0
Does opens go x y = x >>= shut opens ≡ y >>= rest_of opens go

module _ (opens : List Access) (go : Plain Flow) where
  -- both begin with the same
  does_then : {B : Type 0} (p q : Plain B) (f : B → Plain Flow) (g : B → Plain Went) → p ≡ q → ((b : B) → Does opens go (f b) (g b)) → Does opens go (p >>= f) (q >>= g)
  does_then p q f g e h =
      both (both e (λ b. refl)) (λ w. refl)
      ∙ split q f (shut opens) h
      ∙ sym (bind_assoc q g (rest_of opens go))

  does_first : (x y : Plain Flow) (q : Plain Went) → x ≡ y → Does opens go y q → Does opens go x q
  does_first x y q e h = both e (λ w. refl) ∙ h

  goes_on : Does opens go go (pure Goes)
  goes_on = sym (pure_then Goes (rest_of opens go))

  leaves : (w : ValueTree) → Does opens go (pure (Some w)) (pure (Leaves w))
  leaves w = pure_then (Some w) (shut opens) ∙ sym (pure_then (Leaves w) (rest_of opens go))

  flows : (flow : Flow) → Does opens go (unless_left go flow) (flowed flow)
  flows None = goes_on
  flows (Some w) = leaves w

  opens_one : (mode : Mode) (r : ℕ) (w : List StaticStep) (p : Spot) → Does opens go (copying.under mode r (written_spot w p) go) (opening mode r p)
  opens_one mode r w p =
      under_shut mode r w p go opens
      ∙ sym (split (opened (access mode r p)) (λ done. pure (Opens (access mode r p))) (rest_of opens go) (λ done. pure_then (Opens (access mode r p)) (rest_of opens go)))

  declares : (locals : List Local) (name : Name) (w : ValueTree) → Does opens go (def_places.declared copying locals name w >>= (λ done. go)) (parts.declared locals name w)
  declares locals name w =
      does_first _ _ (parts.declared locals name w)
      (split (def_places.local locals name) (λ x. copying.write (def_places.all_of x) w) (λ done. go) (λ x. both (wrote [] (parts.all_of x) w) (λ done. refl)))
      (does_then (def_places.local locals name) (def_places.local locals name) (λ x. put_at (parts.all_of x) w >>= (λ done. go)) (λ x. put_at (parts.all_of x) w >>= (λ done. pure Goes)) refl
      (λ x. does_then (put_at (parts.all_of x) w) (put_at (parts.all_of x) w) (λ done. go) (λ done. pure Goes) refl (λ done. goes_on)))

  binds_place : (locals : List Local) (mode : Mode) (name : Name) (P : Plain (ops.Spot × ValueTree)) (Q : Plain Spot) → Sees P Q → Does opens go (P >>= (λ f. def_places.local locals name >>= (λ r. copying.under mode r f.0 go))) (Q >>= (λ p. def_places.local locals name >>= (λ r. opening mode r p)))
  binds_place locals mode name P Q h =
      does_first _ _ (Q >>= (λ p. def_places.local locals name >>= (λ r. opening mode r p)))
      (place_then P Q h (λ p. def_places.local locals name >>= (λ r. copying.under mode r p go)))
      (does_then Q Q (λ p. def_places.local locals name >>= (λ r. copying.under mode r (written_spot h.steps p) go)) (λ p. def_places.local locals name >>= (λ r. opening mode r p)) refl
      (λ p. does_then (def_places.local locals name) (def_places.local locals name) (λ r. copying.under mode r (written_spot h.steps p) go) (λ r. opening mode r p) refl
      (λ r. opens_one mode r h.steps p)))

  binds : (locals : List Local) (name : Name) (P : Option (Plain (ops.Spot × ValueTree))) (Q : Option (Plain Spot)) (x y : Plain ValueTree) → Placed P Q → x ≡ y → Does opens go (bound copying locals name P x go) (parts.bound locals name Q y)
  binds locals name (Some P) (Some Q) x y h e = binds_place locals Reads name P Q h
  binds locals name None None x y h e = does_then x y (λ w. def_places.declared copying locals name w >>= (λ done. go)) (λ w. parts.declared locals name w) e (λ w. declares locals name w)
  binds locals name (Some P) None x y h e = absurd h
  binds locals name None (Some Q) x y h e = absurd h

  assigns : (P : Plain (ops.Spot × ValueTree)) (Q : Plain Spot) (w : ValueTree) → Sees P Q → Does opens go (P >>= (λ f. copying.write f.0 w >>= (λ done. go))) (Q >>= (λ p. put_at p w >>= (λ done. pure Goes)))
  assigns P Q w h =
      does_first _ _ (Q >>= (λ p. put_at p w >>= (λ done. pure Goes)))
      (place_then P Q h (λ p. copying.write p w >>= (λ done. go)) ∙ later Q (λ p. both (wrote h.steps p w) (λ done. refl)))
      (does_then Q Q (λ p. put_at p w >>= (λ done. go)) (λ p. put_at p w >>= (λ done. pure Goes)) refl
      (λ p. does_then (put_at p w) (put_at p w) (λ done. go) (λ done. pure Goes) refl (λ done. goes_on)))

chosen_same : {x y : Plain ValueTree} {a b c d : Plain Flow} → x ≡ y → a ≡ b → c ≡ d → chosen x a c ≡ chosen y b d
chosen_same e f g = λ i. chosen (e i) (f i) (g i)

no_args : (m : ℕ) (opens : List Access) (go : List Passed → Plain Flow) → counted_from m (stuck {A = Flow} Kinds) >>= shut opens ≡ stuck {A = Given} Kinds >>= finish go
no_args m opens go = both (counted_stuck m Kinds) (λ w. refl) ∙ stuck_first Kinds (shut opens) ∙ sym (stuck_first Kinds (finish go))

-- the rest of a block, behind a statement
went_same : (w : Went) (opens : List Access) (go : Plain Flow) (from : List Access → Plain (Flow × List Access)) → ((more : List Access) → go >>= shut more ≡ from more >>= (λ r. shut r.1 r.0)) → rest_of opens go w ≡ went w opens from >>= (λ r. shut r.1 r.0)
went_same (Leaves w) opens go from h = sym (pure_then (Some w, opens) (λ r. shut r.1 r.0))
went_same Goes opens go from h = h opens
went_same (Opens a) opens go from h = h (a ∷ opens)

-- ---- the tree

module _ (tree : Core) (locals : List Local) (deeper : Deeper (Unit {0}) Locals) (steady : (at : Place) (f : ℕ) (body : CoreBody) → Steady (entered copying deeper at f body)) where
  sees : (root : Name) (steps : CoreSteps) → ((ls : List (Link Place)) → flat.links_from tree locals deeper ls (type_of locals root) steps ≡ def.indices copying tree locals deeper (type_of locals root) steps >>= (λ ws. pure (ls ++ ws))) → Sees (def_places.found copying locals tree root steps (def.indices copying tree locals deeper (type_of locals root) steps)) (parts.found locals root (flat.links_from tree locals deeper [] (type_of locals root) steps))
  sees root steps h = found_sees tree locals root steps (def.indices copying tree locals deeper (type_of locals root) steps) (flat.links_from tree locals deeper [] (type_of locals root) steps) (sym (h [] ∙ then_pure (def.indices copying tree locals deeper (type_of locals root) steps)))

  mutual
    pub value_same : (x : CoreExpr) → def.value copying tree locals deeper x ≡ flat.value tree locals deeper x
    value_same (Number at z) = refl
    value_same (Truth at b) = refl
    value_same (Path at root steps) = named_same tree (number_in locals root.text) root steps _ _ (sees root steps (λ ls. links_same ls (type_of locals root) steps))
    value_same (Calls at c) = call_same c
    value_same (Awaits at name) = refl
    value_same (Array at xs) = both (sym (values_same [] xs ∙ then_pure (def.values copying tree locals deeper xs))) (λ ws. refl)
    value_same (Filled at len x) = both (value_same len) (λ n. both (value_same x) (λ w. refl))
    value_same (Count at root steps) = seen_then _ _ (sees root steps (λ ls. links_same ls (type_of locals root) steps)) (λ f. def_places.counted f >>= (λ n. pure (v.Number (pos n))))
    value_same (Lambda at captures params result body) = captured_same locals [] captures (λ ps. known Kinds (body_number (bodies_of tree) body) >>= (λ f. pure (Closure f ps)))
    value_same (Prefix at op x) = both (value_same x) (λ w. refl)
    value_same (Chain at first links) = both (value_same first) (λ w. chained_same links w)

    values_same : (ws : List ValueTree) (xs : CoreExprs) → flat.values_from tree locals deeper ws xs ≡ def.values copying tree locals deeper xs >>= (λ us. pure (ws ++ us))
    values_same ws NoExprs = none_more ws
    values_same ws (ExprOf x rest) =
        sym (split (def.value copying tree locals deeper x) (λ w. def.values copying tree locals deeper rest >>= (λ us. pure (w ∷ us))) (λ us. pure (ws ++ us))
        (λ w. one_more ws w (flat.values_from tree locals deeper (ws ++ w ∷ []) rest) (def.values copying tree locals deeper rest) (values_same (ws ++ w ∷ []) rest))
        ∙ both (value_same x) (λ w. refl))

    chained_same : (links : CoreLinks) (w : ValueTree) → def.chained copying tree locals deeper links w ≡ flat.chained tree locals deeper links w
    chained_same NoLinks w = refl
    chained_same (LinkOf op at x rest) w =
        ap (λ (z : Plain ValueTree). if decides op w then pure w else z) (both (value_same x) (λ u. later (applied at (binary op w u)) (λ y. chained_same rest y)))

    links_same : (ls : List (Link Place)) (t : Option ValueType) (steps : CoreSteps) → flat.links_from tree locals deeper ls t steps ≡ def.indices copying tree locals deeper t steps >>= (λ us. pure (ls ++ us))
    links_same ls t NoSteps = none_more ls
    links_same ls t (FieldStep name rest) =
        sym (split (known Kinds (field_at tree t name)) (λ f. def.indices copying tree locals deeper (Some f.ty) rest >>= (λ us. pure (ToField f.number ∷ us))) (λ us. pure (ls ++ us))
        (λ f. one_more ls (ToField f.number) (flat.links_from tree locals deeper (ls ++ ToField f.number ∷ []) (Some f.ty) rest) (def.indices copying tree locals deeper (Some f.ty) rest) (links_same (ls ++ ToField f.number ∷ []) (Some f.ty) rest)))
    links_same ls t (IndexStep at x rest) =
        sym (split (def.value copying tree locals deeper x) (λ w. number w >>= (λ z. def.indices copying tree locals deeper (element_at t) rest >>= (λ us. pure (ToIndex z at ∷ us)))) (λ us. pure (ls ++ us))
        (λ w. split (number w) (λ z. def.indices copying tree locals deeper (element_at t) rest >>= (λ us. pure (ToIndex z at ∷ us))) (λ us. pure (ls ++ us))
        (λ z. one_more ls (ToIndex z at) (flat.links_from tree locals deeper (ls ++ ToIndex z at ∷ []) (element_at t) rest) (def.indices copying tree locals deeper (element_at t) rest) (links_same (ls ++ ToIndex z at ∷ []) (element_at t) rest)))
        ∙ both (value_same x) (λ w. refl))

    placed : (x : CoreExpr) → Placed (def.place_in copying tree locals deeper x) (flat.place_in tree locals deeper x)
    placed (Path at root steps) = placed_if (number_in locals root.text) _ _ (sees root steps (λ ls. links_same ls (type_of locals root) steps))
    placed (Number at z) = tt
    placed (Truth at b) = tt
    placed (Calls at c) = tt
    placed (Awaits at name) = tt
    placed (Array at xs) = tt
    placed (Filled at len x) = tt
    placed (Count at root steps) = tt
    placed (Lambda at captures params result body) = tt
    placed (Prefix at op x) = tt
    placed (Chain at first links) = tt

    call_same : (c : CoreCall) → def.call copying tree locals deeper c ≡ flat.call tree locals deeper c
    call_same (CallOf root steps at given) =
        both (callee_same tree (number_in locals root.text) root steps _ _ (sees root steps (λ ls. links_same ls (type_of locals root) steps)))
        (λ who. called_same tree who _ _ _ _ (sym (parts_same [] given ∙ then_pure (def.parts copying tree locals deeper given)))
        (λ f captures body. counted_same_all (def.args copying tree locals deeper given body.params (passed_captures captures) (entered copying deeper at f body)) (λ m. flat.args_from tree locals deeper given body.params m (passed_captures captures) []) (finish (entered copying deeper at f body))
        (λ m. args_same given body.params m (passed_captures captures) [] (entered copying deeper at f body) (steady at f body))))

    parts_same : (ws : List ValueTree) (xs : CoreArgs) → flat.parts_from tree locals deeper ws xs ≡ def.parts copying tree locals deeper xs >>= (λ us. pure (ws ++ us))
    parts_same ws NoArgs = none_more ws
    parts_same ws (ValueArg x rest) =
        sym (split (def.value copying tree locals deeper x) (λ w. def.parts copying tree locals deeper rest >>= (λ us. pure (w ∷ us))) (λ us. pure (ws ++ us))
        (λ w. one_more ws w (flat.parts_from tree locals deeper (ws ++ w ∷ []) rest) (def.parts copying tree locals deeper rest) (parts_same (ws ++ w ∷ []) rest))
        ∙ both (value_same x) (λ w. refl))
    parts_same ws (RefArg at root steps rest) = sym (stuck_first Kinds (λ us. pure (ws ++ us)))

    args_same : (given : CoreArgs) (params : List CoreParam) (m : ℕ) (ps : List Passed) (opens : List Access) (go : List Passed → Plain Flow) → Steady go → counted_from m (def.args copying tree locals deeper given params ps go) >>= shut opens ≡ flat.args_from tree locals deeper given params m ps opens >>= finish go
    args_same NoArgs [] m ps opens go h = both (h m ps) (λ w. refl) ∙ sym (pure_then (ps, opens) (finish go))
    args_same NoArgs (p ∷ params) m ps opens go h = no_args m opens go
    args_same (ValueArg x rest) [] m ps opens go h = no_args m opens go
    args_same (ValueArg x rest) (p ∷ params) m ps opens go h =
        args_step m ps opens go (λ a. def.args copying tree locals deeper rest params (ps ++ a ∷ []) go) (flat.args_from tree locals deeper rest params) _ _
        (value_passes (λ a. def.args copying tree locals deeper rest params (ps ++ a ∷ []) go) m opens p.conv (def.place_in copying tree locals deeper x) (flat.place_in tree locals deeper x) (def.value copying tree locals deeper x) (flat.value tree locals deeper x) (placed x) (value_same x))
        (λ a n more. args_same rest params n (ps ++ a ∷ []) more go h)
    args_same (RefArg at root steps rest) [] m ps opens go h = no_args m opens go
    args_same (RefArg at root steps rest) (p ∷ params) m ps opens go h =
        args_step m ps opens go (λ a. def.args copying tree locals deeper rest params (ps ++ a ∷ []) go) (flat.args_from tree locals deeper rest params) _ _
        (place_passes (λ a. def.args copying tree locals deeper rest params (ps ++ a ∷ []) go) m opens p.conv _ _ (sees root steps (λ ls. links_same ls (type_of locals root) steps)))
        (λ a n more. args_same rest params n (ps ++ a ∷ []) more go h)

    child_is : (c : CoreCall) → def.child copying tree locals deeper c ≡ flat.child tree locals deeper c
    child_is (CallOf root steps at given) =
        both (callee_same tree (number_in locals root.text) root steps _ _ (sees root steps (λ ls. links_same ls (type_of locals root) steps)))
        (λ who. child_same tree who _ _ (λ f captures body. owns_same given body.params (passed_captures captures)))

    owns_same : (given : CoreArgs) (params : List CoreParam) (ps : List Passed) → def.own_values copying tree locals deeper given params ps ≡ flat.own_values tree locals deeper given params ps
    owns_same NoArgs [] ps = refl
    owns_same NoArgs (p ∷ params) ps = refl
    owns_same (ValueArg x rest) [] ps = refl
    owns_same (ValueArg x rest) (p ∷ params) ps =
        both (own_same p.conv (def.place_in copying tree locals deeper x) (flat.place_in tree locals deeper x) (def.value copying tree locals deeper x) (flat.value tree locals deeper x) (placed x) (value_same x))
        (λ a. owns_same rest params (ps ++ a ∷ []))
    owns_same (RefArg at root steps rest) params ps = refl

    pub block_same : (b : CoreBlock) → def.block copying tree locals deeper b ≡ flat.block tree locals deeper b
    block_same (BlockOf stmts end) = sym (shut_nothing (def.statements copying tree locals deeper stmts)) ∙ statements_same stmts []

    statements_same : (stmts : CoreStmts) (opens : List Access) → def.statements copying tree locals deeper stmts >>= shut opens ≡ flat.statements tree locals deeper stmts opens >>= (λ r. shut r.1 r.0)
    statements_same NoStmts opens = pure_then None (shut opens) ∙ sym (pure_then (None, opens) (λ r. shut r.1 r.0))
    statements_same (StmtOf x rest) opens =
        split (pay 1 (first_token x)) (λ paid. def.statement copying tree locals deeper x (def.statements copying tree locals deeper rest)) (shut opens)
        (λ paid. statement_same x opens (def.statements copying tree locals deeper rest))
        ∙ sym (split (pay 1 (first_token x)) (λ paid. flat.statement tree locals deeper x >>= (λ w. went w opens (flat.statements tree locals deeper rest))) (λ r. shut r.1 r.0)
        (λ paid. split (flat.statement tree locals deeper x) (λ w. went w opens (flat.statements tree locals deeper rest)) (λ r. shut r.1 r.0)
        (λ w. sym (went_same w opens (def.statements copying tree locals deeper rest) (flat.statements tree locals deeper rest) (λ more. statements_same rest more)))))

    statement_same : (x : CoreStmt) (opens : List Access) (go : Plain Flow) → Does opens go (def.statement copying tree locals deeper x go) (flat.statement tree locals deeper x)
    statement_same (Var at name t) opens go = declares opens go locals name (holes tree t)
    statement_same (VarWith at name t x) opens go = does_then opens go _ _ (λ w. def_places.declared copying locals name w >>= (λ done. go)) (λ w. parts.declared locals name w) (value_same x) (λ w. declares opens go locals name w)
    statement_same (Let at name t x) opens go = binds opens go locals name (def.place_in copying tree locals deeper x) (flat.place_in tree locals deeper x) (def.value copying tree locals deeper x) (flat.value tree locals deeper x) (placed x) (value_same x)
    statement_same (Inout at name t root steps) opens go = binds_place opens go locals Writes name _ _ (sees root steps (λ ls. links_same ls (type_of locals root) steps))
    statement_same (Assign at root steps x) opens go =
        does_then opens go _ _ (λ w. def_places.found copying locals tree root steps (def.indices copying tree locals deeper (type_of locals root) steps) >>= (λ f. copying.write f.0 w >>= (λ done. go))) (λ w. parts.found locals root (flat.links_from tree locals deeper [] (type_of locals root) steps) >>= (λ p. put_at p w >>= (λ done. pure Goes))) (value_same x)
        (λ w. assigns opens go _ _ w (sees root steps (λ ls. links_same ls (type_of locals root) steps)))
    statement_same (If at branches) opens go = does_then opens go _ _ (unless_left go) flowed (choices_same branches) (λ flow. flows opens go flow)
    statement_same (While at test body) opens go = does_then opens go _ _ (unless_left go) flowed (λ i. repeated at (value_same test i) (block_same body i)) (λ flow. flows opens go flow)
    statement_same (Return at) opens go = leaves opens go (Fields Nil)
    statement_same (ReturnWith at x) opens go = does_then opens go _ _ (λ w. pure (Some w)) (λ w. pure (Leaves w)) (value_same x) (λ w. leaves opens go w)
    statement_same (Print at x) opens go =
        does_then opens go _ _ (λ w. say (text w ++ 10 ∷ []) >>= (λ done. go)) (λ w. say (text w ++ 10 ∷ []) >>= (λ done. pure Goes)) (value_same x)
        (λ w. does_then opens go _ _ (λ done. go) (λ done. pure Goes) refl (λ done. goes_on opens go))
    statement_same (Task at name t word budget c) opens go =
        does_then opens go _ _ _ _ (value_same budget)
        (λ k. does_then opens go _ _ _ _ (child_is c)
        (λ what. does_then opens go (number k) (number k) _ _ refl
        (λ z. does_then opens go (def_places.local locals name) (def_places.local locals name) _ _ refl
        (λ h. does_then opens go (spawned copying deeper h word z what) (spawned copying deeper h word z what) (λ done. go) (λ done. pure Goes) refl (λ done. goes_on opens go)))))
    statement_same (AwaitsAlone at name) opens go =
        does_then opens go (def_places.local locals name) (def_places.local locals name) (λ h. copying.await h >>= (λ w. go)) (λ h. copying.await h >>= (λ w. pure Goes)) refl
        (λ h. does_then opens go (copying.await h) (copying.await h) (λ w. go) (λ w. pure Goes) refl (λ w. goes_on opens go))
    statement_same (CallsAlone at c) opens go = does_then opens go _ _ (λ w. go) (λ w. pure Goes) (call_same c) (λ w. goes_on opens go)
    statement_same (Bare at b) opens go = does_then opens go _ _ (unless_left go) flowed (block_same b) (λ flow. flows opens go flow)

    choices_same : (branches : CoreBranches) → def.choices copying tree locals deeper branches ≡ flat.choices tree locals deeper branches
    choices_same NoElse = refl
    choices_same (Else b) = block_same b
    choices_same (BranchOf test body rest) = chosen_same (value_same test) (block_same body) (choices_same rest)
