-- The locals of bodies, and what is found of their names.
use Rattle.std.proofs.Common.{◌≡◌, ◌⊎◌, inl, inr, ℕ, List, [], ◌∷◌, ◌++◌, map, Option, refl, sym, ap, ◌∙◌, append_assoc, append-nil}
use Rattle.std.proofs.lemmas.List.{map-append}
use Rattle.hv_tree.specs.declared.types.Name.{Name}
use Rattle.hv_tree.specs.declared.refusal.Refusal.{Refusal}
use Rattle.hv_tree.specs.Core.{CoreFun, CoreParam, CoreTy, CoreBlock, BlockOf, CoreStmts, NoStmts, StmtOf, CoreBranches, NoElse, Else, BranchOf, CoreStmt, Var, VarWith, Let, Inout, Assign, If, While, Return, ReturnWith, Print, Task, AwaitsAlone, CallsAlone, Bare}
use Rattle.hv_decls.specs.Locals.{Local, Captured, declared_in, in_branches, in_block, in_stmts, CoreBody, fun_body, locals_of, param_local}
use Rattle.hv_decls.specs.Sites.{Scope, capture_local, lambda_body}
use Rattle.hv_type_rules.specs.Names.{local_name}
use Rattle.hv_type_names.specs.declared.program.Program.{Program}
use Rattle.hv_type_names.specs.Found as spec
use Rattle.hv_lemmas.proofs.Members.{Among, in_left, in_right, either_in}

-- ---- the names of locals

mutual
  stmt_locals : (x : CoreStmt) → spec.stmt_names x ≡ map local_name (declared_in x)
  stmt_locals (Var at name t) = refl
  stmt_locals (VarWith at name t x) = refl
  stmt_locals (Let at name t x) = refl
  stmt_locals (Inout at name t root steps) = refl
  stmt_locals (Assign at root steps x) = refl
  stmt_locals (If at branches) = branches_locals branches
  stmt_locals (While at test body) = block_locals body
  stmt_locals (Return at) = refl
  stmt_locals (ReturnWith at x) = refl
  stmt_locals (Print at x) = refl
  stmt_locals (Task at name t spawn budget call) = refl
  stmt_locals (AwaitsAlone at name) = refl
  stmt_locals (CallsAlone at call) = refl
  stmt_locals (Bare at block) = block_locals block

  branches_locals : (b : CoreBranches) → spec.branches_names b ≡ map local_name (in_branches b)
  branches_locals NoElse = refl
  branches_locals (Else block) = block_locals block
  branches_locals (BranchOf test body rest) =
      ap (λ l. l ++ spec.branches_names rest) (block_locals body) ∙ ap (λ l. map local_name (in_block body) ++ l) (branches_locals rest) ∙ sym (map-append local_name (in_block body) (in_branches rest))

  pub block_locals : (b : CoreBlock) → spec.block_names b ≡ map local_name (in_block b)
  block_locals (BlockOf stmts end) = stmts_locals stmts

  stmts_locals : (stmts : CoreStmts) → spec.stmts_names stmts ≡ map local_name (in_stmts stmts)
  stmts_locals NoStmts = refl
  stmts_locals (StmtOf x rest) =
      ap (λ l. l ++ spec.stmts_names rest) (stmt_locals x) ∙ ap (λ l. map local_name (declared_in x) ++ l) (stmts_locals rest) ∙ sym (map-append local_name (declared_in x) (in_stmts rest))

-- no local of a block is a capture
abbrev pub Own : Local → Type 0
Own l = l.kind ≡ Captured → ⊥

one_own : (l m : Local) → (m.kind ≡ Captured → ⊥) → Among (m ∷ []) l → Own l
one_own l m f (inl e) = λ k. f (ap (λ (x : Local). x.kind) e ∙ k)
one_own l m f (inr h) = absurd h

or_own : (l : Local) (a b : List Local) → Among (a ++ b) l → (Among a l → Own l) → (Among b l → Own l) → Own l
or_own l a b h f g = by (either_in a b l h)
  where
    by : Among a l ⊎ Among b l → Own l
    by (inl i) = f i
    by (inr i) = g i

mutual
  stmt_own : (x : CoreStmt) (l : Local) → Among (declared_in x) l → Own l
  stmt_own (Var at name t) l h = one_own l _ (λ e. cc) h
  stmt_own (VarWith at name t x) l h = one_own l _ (λ e. cc) h
  stmt_own (Let at name t x) l h = one_own l _ (λ e. cc) h
  stmt_own (Inout at name t root steps) l h = one_own l _ (λ e. cc) h
  stmt_own (Assign at root steps x) l h = absurd h
  stmt_own (If at branches) l h = branches_own branches l h
  stmt_own (While at test body) l h = block_own body l h
  stmt_own (Return at) l h = absurd h
  stmt_own (ReturnWith at x) l h = absurd h
  stmt_own (Print at x) l h = absurd h
  stmt_own (Task at name t spawn budget call) l h = one_own l _ (λ e. cc) h
  stmt_own (AwaitsAlone at name) l h = absurd h
  stmt_own (CallsAlone at call) l h = absurd h
  stmt_own (Bare at block) l h = block_own block l h

  branches_own : (b : CoreBranches) (l : Local) → Among (in_branches b) l → Own l
  branches_own NoElse l h = absurd h
  branches_own (Else block) l h = block_own block l h
  branches_own (BranchOf test body rest) l h = or_own l (in_block body) (in_branches rest) h (block_own body l) (branches_own rest l)

  pub block_own : (b : CoreBlock) (l : Local) → Among (in_block b) l → Own l
  block_own (BlockOf stmts end) l h = stmts_own stmts l h

  stmts_own : (stmts : CoreStmts) (l : Local) → Among (in_stmts stmts) l → Own l
  stmts_own NoStmts l h = absurd h
  stmts_own (StmtOf x rest) l h = or_own l (declared_in x) (in_stmts rest) h (stmt_own x l) (stmts_own rest l)

-- ---- bodies

-- a body with these captures, parameters and block
pub record IsBody (body : CoreBody) (captures : List Name) (given : List CoreParam) (inside : CoreBlock) : Type 0 where
  pub names : map local_name body.captures ≡ captures
  pub kinds : (l : Local) → Among body.captures l → l.kind ≡ Captured
  pub params : body.params ≡ given
  pub block : body.block ≡ inside

pub is_fun : (f : CoreFun) → IsBody (fun_body f) [] f.params f.body
is_fun f = record { names = refl; kinds = λ l h. absurd h; params = refl; block = refl }

lambda_names : (visible : List Local) (captures : List Name) → map local_name (map (capture_local visible) captures) ≡ captures
lambda_names visible [] = refl
lambda_names visible (n ∷ ns) = ap (λ l. n ∷ l) (lambda_names visible ns)

lambda_kinds : (visible : List Local) (captures : List Name) (l : Local) → Among (map (capture_local visible) captures) l → l.kind ≡ Captured
lambda_kinds visible [] l h = absurd h
lambda_kinds visible (n ∷ ns) l (inl e) = sym (ap (λ (x : Local). x.kind) e)
lambda_kinds visible (n ∷ ns) l (inr h) = lambda_kinds visible ns l h

pub is_lambda : (s : Scope) (captures : List Name) (params : List CoreParam) (result : Option CoreTy) (block : CoreBlock) → IsBody (lambda_body s captures params result block) captures params block
is_lambda s captures params result block = record { names = lambda_names s.visible captures; kinds = lambda_kinds s.visible captures; params = refl; block = refl }

-- the names of what a body declares itself
abbrev pub own_names : List CoreParam → CoreBlock → List Name
own_names params block = map spec.param_name params ++ spec.block_names block

abbrev pub own_locals : CoreBody → List Local
own_locals body = map param_local body.params ++ in_block body.block

param_names : (params : List CoreParam) → map local_name (map param_local params) ≡ map spec.param_name params
param_names [] = refl
param_names (x ∷ xs) = ap (λ l. x.name ∷ l) (param_names xs)

own_same : (params : List CoreParam) (block : CoreBlock) → map local_name (map param_local params ++ in_block block) ≡ own_names params block
own_same params block =
    map-append local_name (map param_local params) (in_block block) ∙ ap (λ l. l ++ map local_name (in_block block)) (param_names params) ∙ ap (λ l. map spec.param_name params ++ l) (sym (block_locals block))

module _ (body : CoreBody) (captures : List Name) (params : List CoreParam) (block : CoreBlock) (is : IsBody body captures params block) where
  pub owned : map local_name (own_locals body) ≡ own_names params block
  owned = ap (λ (ps : List CoreParam). map local_name (map param_local ps ++ in_block body.block)) is.params ∙ ap (λ (b : CoreBlock). map local_name (map param_local params ++ in_block b)) is.block ∙ own_same params block

  -- the names of all locals of a body
  pub all_names : map local_name (locals_of body) ≡ captures ++ own_names params block
  all_names =
      ap (map local_name) (append_assoc body.captures (map param_local body.params) (in_block body.block))
      ∙ map-append local_name body.captures (own_locals body)
      ∙ ap (λ l. l ++ map local_name (own_locals body)) is.names
      ∙ ap (λ l. captures ++ l) owned

  -- a name of its own is that of a local of its own
  pub local_of : (n : Name) → Among (own_names params block) n → (l : Local) × Among (locals_of body) l × Own l × (l.name ≡ n)
  local_of n h =
      let o = unmap (own_locals body) n (rw owned h) in
      (o.0, rw (append_assoc body.captures (map param_local body.params) (in_block body.block)) (in_right body.captures (own_locals body) o.0 o.1), own o.0 (either_in (map param_local body.params) (in_block body.block) o.0 o.1), o.2)
    where
      unmap : (ls : List Local) (n : Name) → Among (map local_name ls) n → (l : Local) × Among ls l × (l.name ≡ n)
      unmap [] n h = absurd h
      unmap (l ∷ ls) n (inl e) = (l, inl refl, e)
      unmap (l ∷ ls) n (inr h) = let o = unmap ls n h in (o.0, inr o.1, o.2)

      param_own : (ps : List CoreParam) (l : Local) → Among (map param_local ps) l → Own l
      param_own [] l h = absurd h
      param_own (x ∷ xs) l (inl e) = λ k. let f : (param_local x).kind ≡ Captured = ap (λ (y : Local). y.kind) e ∙ k in cc
      param_own (x ∷ xs) l (inr h) = param_own xs l h

      own : (l : Local) → Among (map param_local body.params) l ⊎ Among (in_block body.block) l → Own l
      own l (inl h) = param_own body.params l h
      own l (inr h) = block_own body.block l h

  -- and the other way
  pub name_of : (l : Local) → Among (locals_of body) l → Own l → Among (own_names params block) l.name
  name_of l h own = rw (← owned) (by (either_in body.captures (own_locals body) l (rw (← append_assoc body.captures (map param_local body.params) (in_block body.block)) h)))
    where
      mapped : (ls : List Local) (l : Local) → Among ls l → Among (map local_name ls) l.name
      mapped [] l h = absurd h
      mapped (m ∷ ls) l (inl e) = inl (ap local_name e)
      mapped (m ∷ ls) l (inr h) = inr (mapped ls l h)

      by : Among body.captures l ⊎ Among (own_locals body) l → Among (map local_name (own_locals body)) l.name
      by (inl i) = absurd (own (is.kinds l i))
      by (inr i) = mapped (own_locals body) l i

-- ---- what is found of them

pub repeats_append : (known : List (List ℕ)) (a b : List Name) → spec.repeats_found known (a ++ b) ≡ spec.repeats_found known a ++ spec.repeats_found (known ++ spec.texts_of a) b
repeats_append known [] b = ap (λ k. spec.repeats_found k b) (sym (append-nil known))
repeats_append known (n ∷ ns) b =
    ap (λ l. spec.again_found known n ++ l)
    (repeats_append (known ++ n.text ∷ []) ns b ∙ ap (λ k. spec.repeats_found (known ++ n.text ∷ []) ns ++ spec.repeats_found k b) (append_assoc known (n.text ∷ []) (spec.texts_of ns)))
    ∙ sym (append_assoc (spec.again_found known n) (spec.repeats_found (known ++ n.text ∷ []) ns) (spec.repeats_found (known ++ n.text ∷ spec.texts_of ns) b))

module _ (p : Program) (r : Refusal) where
  -- a name of the list shares its text with a declaration
  abbrev pub Shared : List Name → Type 0
  Shared names = (n : Name) × Among names n × Among (spec.shared_found p n) r

  later : (m : Name) (ns : List Name) → Shared ns → Shared (m ∷ ns)
  later m ns (n, h, k) = (n, inr h, k)

  pub out_locals : (known : List (List ℕ)) (names : List Name) → Among (spec.locals_found p known names) r → Among (spec.repeats_found known names) r ⊎ Shared names
  out_locals known [] h = absurd h
  out_locals known (n ∷ ns) h = by (either_in (spec.local_found p known n) (spec.locals_found p (known ++ n.text ∷ []) ns) r h) (out_locals (known ++ n.text ∷ []) ns)
    where
      rest : Among (spec.repeats_found (known ++ n.text ∷ []) ns) r ⊎ Shared ns → Among (spec.repeats_found known (n ∷ ns)) r ⊎ Shared (n ∷ ns)
      rest (inl i) = inl (in_right (spec.again_found known n) (spec.repeats_found (known ++ n.text ∷ []) ns) r i)
      rest (inr i) = inr (later n ns i)

      one : Among (spec.again_found known n) r ⊎ Among (spec.shared_found p n) r → Among (spec.repeats_found known (n ∷ ns)) r ⊎ Shared (n ∷ ns)
      one (inl i) = inl (in_left (spec.again_found known n) (spec.repeats_found (known ++ n.text ∷ []) ns) r i)
      one (inr i) = inr (n, inl refl, i)

      by : Among (spec.local_found p known n) r ⊎ Among (spec.locals_found p (known ++ n.text ∷ []) ns) r → (Among (spec.locals_found p (known ++ n.text ∷ []) ns) r → Among (spec.repeats_found (known ++ n.text ∷ []) ns) r ⊎ Shared ns) →
          Among (spec.repeats_found known (n ∷ ns)) r ⊎ Shared (n ∷ ns)
      by (inl i) f = one (either_in (spec.again_found known n) (spec.shared_found p n) r i)
      by (inr i) f = rest (f i)

  pub repeats_in_locals : (known : List (List ℕ)) (names : List Name) → Among (spec.repeats_found known names) r → Among (spec.locals_found p known names) r
  repeats_in_locals known [] h = absurd h
  repeats_in_locals known (n ∷ ns) h = by (either_in (spec.again_found known n) (spec.repeats_found (known ++ n.text ∷ []) ns) r h) (repeats_in_locals (known ++ n.text ∷ []) ns)
    where
      by : Among (spec.again_found known n) r ⊎ Among (spec.repeats_found (known ++ n.text ∷ []) ns) r → (Among (spec.repeats_found (known ++ n.text ∷ []) ns) r → Among (spec.locals_found p (known ++ n.text ∷ []) ns) r) → Among (spec.locals_found p known (n ∷ ns)) r
      by (inl i) f = in_left (spec.local_found p known n) (spec.locals_found p (known ++ n.text ∷ []) ns) r (in_left (spec.again_found known n) (spec.shared_found p n) r i)
      by (inr i) f = in_right (spec.local_found p known n) (spec.locals_found p (known ++ n.text ∷ []) ns) r (f i)

  pub shared_in_locals : (known : List (List ℕ)) (names : List Name) (n : Name) → Among names n → Among (spec.shared_found p n) r → Among (spec.locals_found p known names) r
  shared_in_locals known [] n h k = absurd h
  shared_in_locals known (m ∷ ns) n (inl e) k =
      in_left (spec.local_found p known m) (spec.locals_found p (known ++ m.text ∷ []) ns) r (in_right (spec.again_found known m) (spec.shared_found p m) r (rw e k))
  shared_in_locals known (m ∷ ns) n (inr h) k = in_right (spec.local_found p known m) (spec.locals_found p (known ++ m.text ∷ []) ns) r (shared_in_locals (known ++ m.text ∷ []) ns n h k)

  module _ (captures : List Name) (params : List CoreParam) (block : CoreBlock) where
    abbrev known_in : List (List ℕ)
    known_in = spec.texts_of captures ++ spec.texts_of (map spec.param_name params)

    -- all repeats of a body, in three pieces
    pieces : spec.repeats_found [] (captures ++ own_names params block) ≡ spec.repeats_found [] captures ++ (spec.repeats_found (spec.texts_of captures) (map spec.param_name params) ++ spec.repeats_found known_in (spec.block_names block))
    pieces =
        repeats_append [] captures (own_names params block)
        ∙ ap (λ l. spec.repeats_found [] captures ++ l) (repeats_append (spec.texts_of captures) (map spec.param_name params) (spec.block_names block))

    pub out_declared : Among (spec.declared_found p captures params block) r → Among (spec.repeats_found [] (captures ++ own_names params block)) r ⊎ Shared (own_names params block)
    out_declared h = first (either_in (spec.repeats_found [] captures) (spec.locals_found p (spec.texts_of captures) (map spec.param_name params) ++ spec.locals_found p known_in (spec.block_names block)) r h)
      where
        repeats_first : Among (spec.repeats_found [] captures) r → Among (spec.repeats_found [] (captures ++ own_names params block)) r
        repeats_first i = rw pieces (in_left (spec.repeats_found [] captures) (spec.repeats_found (spec.texts_of captures) (map spec.param_name params) ++ spec.repeats_found known_in (spec.block_names block)) r i)

        repeats_rest : Among (spec.repeats_found (spec.texts_of captures) (map spec.param_name params) ++ spec.repeats_found known_in (spec.block_names block)) r → Among (spec.repeats_found [] (captures ++ own_names params block)) r
        repeats_rest i = rw pieces (in_right (spec.repeats_found [] captures) (spec.repeats_found (spec.texts_of captures) (map spec.param_name params) ++ spec.repeats_found known_in (spec.block_names block)) r i)

        second : Among (spec.repeats_found (spec.texts_of captures) (map spec.param_name params)) r ⊎ Shared (map spec.param_name params) → Among (spec.repeats_found [] (captures ++ own_names params block)) r ⊎ Shared (own_names params block)
        second (inl i) = inl (repeats_rest (in_left (spec.repeats_found (spec.texts_of captures) (map spec.param_name params)) (spec.repeats_found known_in (spec.block_names block)) r i))
        second (inr (n, i, k)) = inr (n, in_left (map spec.param_name params) (spec.block_names block) n i, k)

        third : Among (spec.repeats_found known_in (spec.block_names block)) r ⊎ Shared (spec.block_names block) → Among (spec.repeats_found [] (captures ++ own_names params block)) r ⊎ Shared (own_names params block)
        third (inl i) = inl (repeats_rest (in_right (spec.repeats_found (spec.texts_of captures) (map spec.param_name params)) (spec.repeats_found known_in (spec.block_names block)) r i))
        third (inr (n, i, k)) = inr (n, in_right (map spec.param_name params) (spec.block_names block) n i, k)

        more : Among (spec.locals_found p (spec.texts_of captures) (map spec.param_name params)) r ⊎ Among (spec.locals_found p known_in (spec.block_names block)) r → Among (spec.repeats_found [] (captures ++ own_names params block)) r ⊎ Shared (own_names params block)
        more (inl i) = second (out_locals (spec.texts_of captures) (map spec.param_name params) i)
        more (inr i) = third (out_locals known_in (spec.block_names block) i)

        first : Among (spec.repeats_found [] captures) r ⊎ Among (spec.locals_found p (spec.texts_of captures) (map spec.param_name params) ++ spec.locals_found p known_in (spec.block_names block)) r →
            Among (spec.repeats_found [] (captures ++ own_names params block)) r ⊎ Shared (own_names params block)
        first (inl i) = inl (repeats_first i)
        first (inr i) = more (either_in (spec.locals_found p (spec.texts_of captures) (map spec.param_name params)) (spec.locals_found p known_in (spec.block_names block)) r i)

    in_rest : Among (spec.locals_found p (spec.texts_of captures) (map spec.param_name params) ++ spec.locals_found p known_in (spec.block_names block)) r → Among (spec.declared_found p captures params block) r
    in_rest i = in_right (spec.repeats_found [] captures) (spec.locals_found p (spec.texts_of captures) (map spec.param_name params) ++ spec.locals_found p known_in (spec.block_names block)) r i

    in_params : Among (spec.locals_found p (spec.texts_of captures) (map spec.param_name params)) r → Among (spec.declared_found p captures params block) r
    in_params i = in_rest (in_left (spec.locals_found p (spec.texts_of captures) (map spec.param_name params)) (spec.locals_found p known_in (spec.block_names block)) r i)

    in_names : Among (spec.locals_found p known_in (spec.block_names block)) r → Among (spec.declared_found p captures params block) r
    in_names i = in_rest (in_right (spec.locals_found p (spec.texts_of captures) (map spec.param_name params)) (spec.locals_found p known_in (spec.block_names block)) r i)

    pub repeats_declared : Among (spec.repeats_found [] (captures ++ own_names params block)) r → Among (spec.declared_found p captures params block) r
    repeats_declared h =
        first (either_in (spec.repeats_found [] captures) (spec.repeats_found (spec.texts_of captures) (map spec.param_name params) ++ spec.repeats_found known_in (spec.block_names block)) r (rw (← pieces) h))
      where
        more : Among (spec.repeats_found (spec.texts_of captures) (map spec.param_name params)) r ⊎ Among (spec.repeats_found known_in (spec.block_names block)) r → Among (spec.declared_found p captures params block) r
        more (inl i) = in_params (repeats_in_locals (spec.texts_of captures) (map spec.param_name params) i)
        more (inr i) = in_names (repeats_in_locals known_in (spec.block_names block) i)

        first : Among (spec.repeats_found [] captures) r ⊎ Among (spec.repeats_found (spec.texts_of captures) (map spec.param_name params) ++ spec.repeats_found known_in (spec.block_names block)) r → Among (spec.declared_found p captures params block) r
        first (inl i) = in_left (spec.repeats_found [] captures) (spec.locals_found p (spec.texts_of captures) (map spec.param_name params) ++ spec.locals_found p known_in (spec.block_names block)) r i
        first (inr i) = more (either_in (spec.repeats_found (spec.texts_of captures) (map spec.param_name params)) (spec.repeats_found known_in (spec.block_names block)) r i)

    pub shared_declared : (n : Name) → Among (own_names params block) n → Among (spec.shared_found p n) r → Among (spec.declared_found p captures params block) r
    shared_declared n h k = by (either_in (map spec.param_name params) (spec.block_names block) n h)
      where
        by : Among (map spec.param_name params) n ⊎ Among (spec.block_names block) n → Among (spec.declared_found p captures params block) r
        by (inl i) = in_params (shared_in_locals (spec.texts_of captures) (map spec.param_name params) n i k)
        by (inr i) = in_names (shared_in_locals known_in (spec.block_names block) n i k)
