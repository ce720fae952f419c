-- What is judged wrong by the rules on counts, fields, marks, names, changes, callees and function values.
use Rattle.std.proofs.Common.{◌≡◌, ◌≢◌, ◌⊎◌, ℕ, ◌&&◌, ◌||◌, not, true, false, Bool, nat_eq, List, [], ◌∷◌, ◌++◌, length, Option, Some, None, Decides, refl, sym, ap, ◌∙◌, inl, inr}
use Rattle.std.proofs.lemmas.Bool.Decides.{Decides-and, Decides-not, Decides-eqb}
use Rattle.hv_tree.specs.declared.place.Place.{Place}
use Rattle.hv_tree.specs.declared.types.Name.{Name}
use Rattle.hv_tree.specs.declared.types.Conv.{Conv}
use Rattle.hv_tree.specs.declared.types.Conv.TheVariants as conv
use Rattle.hv_tree.specs.declared.refusal.Rule.{Rule}
use Rattle.hv_tree.specs.declared.refusal.Rule.TheVariants as rule
use Rattle.hv_tree.specs.Core.{Core, CoreExpr, Number, Truth, Path, Calls, Awaits, Array, Filled, Count, Lambda, Prefix, Chain, CoreLinks, NoLinks, LinkOf, CoreSteps, NoSteps, FieldStep, IndexStep, CoreArgs, NoArgs, ValueArg, RefArg}
use Rattle.hv_decls.specs.Types.{ValueType}
use Rattle.hv_decls.specs.Locals.{Local, value_of}
use Rattle.hv_decls.specs.Statics.{field_at, element_at, type_at}
use Rattle.hv_decls.specs.Sites.{Scope}
use Rattle.hv_type_rules.specs.Typing.{Known, Wanted, known, Signature, NoSignature, Signed}
use Rattle.hv_type_rules.specs.TypeRules as rules
use Rattle.hv_type_synth.specs.Tests.{is_equality, no_field, no_function, known_to_hold, no_value, no_handle, is_handle, is_read_only, is_struct_name, has_index, is_changed}
use Rattle.hv_type_judge.specs.Judged as spec
use Rattle.hv_type_judge.proofs.Exact.{Exact, none, one, both, here, asked, between}
use Rattle.hv_type_judge.proofs.Deciding.{Holding, always, never, either, equality_decides, no_field_decides, no_function_decides, no_value_decides, no_handle_decides, is_handle_decides, read_only_decides, struct_name_decides, has_index_decides, changed_decides, kept_decides, known_to_hold_decides}

module _ (tree : Core) (holding : List (List ℕ)) (scope : Scope) where
  -- ---- counts, fields and marks

  same_count : (p : Place) (xs : CoreArgs) → spec.count_of xs ≡ rules.count_of tree scope p xs
  same_count p NoArgs = refl
  same_count p (ValueArg x rest) = ap ℕ.suc (same_count p rest)
  same_count p (RefArg at root s rest) = ap ℕ.suc (same_count p rest)

  count_differs : (p : Place) (wanted : List Wanted) (xs : CoreArgs) → Decides (not (nat_eq (spec.count_of xs) (length wanted))) (rules.count_of tree scope p xs ≢ length wanted)
  count_differs p wanted xs =
      let d = Decides-not (nat_eq (spec.count_of xs) (length wanted)) (Decides-eqb (spec.count_of xs) (length wanted)) in
      (λ e f. d.0 e (same_count p xs ∙ f), λ n. d.1 (λ f. n (sym (same_count p xs) ∙ f)))

  pub counts : (s : Signature) (at : Place) (xs : CoreArgs) → Exact (spec.count_t2 tree holding scope s at xs) rule.T2 (λ p. rules.CountDiffers tree scope p s xs × (at ≡ p))
  counts NoSignature at xs = none rule.T2 (λ p. ⊥ × (at ≡ p)) (λ p v. v.0)
  counts (Signed wanted t) at xs =
      one (not (nat_eq (spec.count_of xs) (length wanted))) rule.T2 at (λ p. (rules.count_of tree scope p xs ≢ length wanted) × (at ≡ p))
      (λ e. ((count_differs at wanted xs).0 e, refl)) (λ p v. (v.1, (count_differs p wanted xs).1 v.0))

  pub fields : (t : Option ValueType) (s : CoreSteps) → Exact (spec.step_t3 tree holding scope t s) rule.T3 (λ p. rules.StepsT3 tree scope p t s)
  fields t NoSteps = none rule.T3 (λ p. ⊥) (λ p v. v)
  fields t (FieldStep name rest) =
      both (spec.only (no_field tree t name) (spec.refusal rule.T3 name.place)) (spec.step_t3 tree holding scope (type_at (field_at tree t name)) rest) rule.T3
      (λ p. rules.NoField tree scope p t name × (name.place ≡ p)) (λ p. rules.StepsT3 tree scope p (type_at (field_at tree t name)) rest)
      (one (no_field tree t name) rule.T3 name.place (λ p. rules.NoField tree scope p t name × (name.place ≡ p)) (λ e. ((no_field_decides tree scope name.place t name).0 e, refl)) (λ p v. (v.1, (no_field_decides tree scope p t name).1 v.0)))
      (fields (type_at (field_at tree t name)) rest)
  fields t (IndexStep at x rest) = fields (element_at t) rest

  pub marks : (wanted : List Wanted) (xs : CoreArgs) → Exact (spec.mark_t5 tree holding scope wanted xs) rule.T5 (λ p. rules.MarkDiffers tree scope p wanted xs)
  marks wanted NoArgs = none rule.T5 (λ p. ⊥) (λ p v. v)
  marks [] (ValueArg x rest) = none rule.T5 (λ p. ⊥) (λ p v. v)
  marks [] (RefArg at root s rest) = none rule.T5 (λ p. ⊥) (λ p v. v)
  marks (w ∷ ws) (ValueArg x rest) =
      both (spec.only (is_changed w.conv) (spec.refusal rule.T5 (rules.expr_place x))) (spec.mark_t5 tree holding scope ws rest) rule.T5
      (λ p. rules.LacksMark tree scope p w.conv × (rules.expr_place x ≡ p)) (λ p. rules.MarkDiffers tree scope p ws rest)
      (one (is_changed w.conv) rule.T5 (rules.expr_place x) (λ p. rules.LacksMark tree scope p w.conv × (rules.expr_place x ≡ p)) (λ e. ((changed_decides tree scope (rules.expr_place x) w.conv).0 e, refl)) (λ p v. (v.1, (changed_decides tree scope p w.conv).1 v.0)))
      (marks ws rest)
  marks (w ∷ ws) (RefArg at root s rest) =
      both (spec.only (not (is_changed w.conv)) (spec.refusal rule.T5 at)) (spec.mark_t5 tree holding scope ws rest) rule.T5
      (λ p. rules.HasMark tree scope p w.conv × (at ≡ p)) (λ p. rules.MarkDiffers tree scope p ws rest)
      (one (not (is_changed w.conv)) rule.T5 at (λ p. rules.HasMark tree scope p w.conv × (at ≡ p)) (λ e. ((kept_decides tree scope at w.conv).0 e, refl)) (λ p v. (v.1, (kept_decides tree scope p w.conv).1 v.0)))
      (marks ws rest)

  pub call_marks : (s : Signature) (xs : CoreArgs) → Exact (spec.mark_t5 tree holding scope (spec.wanted_by s) xs) rule.T5 (λ p. rules.CallT5 tree scope p s xs)
  call_marks NoSignature NoArgs = none rule.T5 (λ p. ⊥) (λ p v. v)
  call_marks NoSignature (ValueArg x rest) = none rule.T5 (λ p. ⊥) (λ p v. v)
  call_marks NoSignature (RefArg at root s rest) = none rule.T5 (λ p. ⊥) (λ p v. v)
  call_marks (Signed wanted t) xs = marks wanted xs

  -- ---- names

  pub root_value : (root : Name) → Exact (spec.root_t6 tree holding scope root) rule.T6 (λ p. rules.RootNoValue tree scope p root)
  root_value root = let l = spec.local_named tree holding scope root in here (no_value l) rule.T6 root.place (rules.NoValue l) (no_value_decides l)

  handle_here : (name : Name) → Exact (spec.only (is_handle (spec.local_named tree holding scope name)) (spec.refusal rule.T6 name.place)) rule.T6 (λ p. (name.place ≡ p) × rules.IsHandle (spec.local_named tree holding scope name))
  handle_here name = let l = spec.local_named tree holding scope name in here (is_handle l) rule.T6 name.place (rules.IsHandle l) (is_handle_decides l)

  pub read : (root : Name) (s : CoreSteps) → Exact (spec.read_t6 tree holding scope root s) rule.T6 (λ p. rules.ReadT6 tree scope p root s)
  read root NoSteps =
      let l = spec.local_named tree holding scope root in
      here (is_handle l || (no_value l && is_struct_name tree root)) rule.T6 root.place (rules.IsHandle l ⊎ (rules.NoValue l × rules.IsStructName tree root))
      (either (is_handle l) (no_value l && is_struct_name tree root) (rules.IsHandle l) (rules.NoValue l × rules.IsStructName tree root) (is_handle_decides l)
      (Decides-and (no_value l) (is_struct_name tree root) (no_value_decides l) (struct_name_decides tree root)))
  read root (FieldStep name rest) = root_value root
  read root (IndexStep at x rest) = root_value root

  pub callee : (root : Name) (s : CoreSteps) → Exact (spec.callee_t6 tree holding scope root s) rule.T6 (λ p. rules.CalleeT6 tree scope p root s)
  callee root NoSteps = handle_here root
  callee root (FieldStep name rest) = root_value root
  callee root (IndexStep at x rest) = root_value root

  pub lent : (xs : CoreArgs) → Exact (spec.lent_t6 tree holding scope xs) rule.T6 (λ p. rules.LentT6 tree scope p xs)
  lent NoArgs = none rule.T6 (λ p. ⊥) (λ p v. v)
  lent (ValueArg x rest) = lent rest
  lent (RefArg at root s rest) = both (spec.root_t6 tree holding scope root) (spec.lent_t6 tree holding scope rest) rule.T6 (λ p. rules.RootNoValue tree scope p root) (λ p. rules.LentT6 tree scope p rest) (root_value root) (lent rest)

  pub awaited : (name : Name) → Exact (spec.await_t6 tree holding scope name) rule.T6 (λ p. rules.AwaitT6 tree scope p name)
  awaited name = let l = spec.local_named tree holding scope name in here (no_handle l) rule.T6 name.place (rules.NoHandle l) (no_handle_decides l)

  pub captured : (names : List Name) → Exact (spec.capture_t6 tree holding scope names) rule.T6 (λ p. rules.CaptureT6 tree scope p names)
  captured [] = none rule.T6 (λ p. ⊥) (λ p v. v)
  captured (name ∷ names) =
      let l = spec.local_named tree holding scope name in
      both (spec.only (is_handle l) (spec.refusal rule.T6 name.place)) (spec.capture_t6 tree holding scope names) rule.T6 (λ p. (name.place ≡ p) × rules.IsHandle l) (λ p. rules.CaptureT6 tree scope p names) (handle_here name) (captured names)

  -- ---- changes, moves and callees

  pub root_changed : (root : Name) → Exact (spec.root_t7 tree holding scope root) rule.T7 (λ p. rules.RootReadOnly tree scope p root)
  root_changed root = let l = spec.local_named tree holding scope root in here (is_read_only l) rule.T7 root.place (rules.IsReadOnly l) (read_only_decides l)

  pub moved : (x : CoreExpr) → Exact (spec.move_t7 tree holding scope x) rule.T7 (λ p. rules.MoveT7 tree scope p x)
  moved (Path at root s) =
      let l = spec.local_named tree holding scope root in
      here (spec.stays tree holding scope root s) rule.T7 root.place ((rules.NoValue l → ⊥) × (rules.IsReadOnly l ⊎ rules.HasIndex s))
      (Decides-and (not (no_value l)) (is_read_only l || has_index s) (Decides-not (no_value l) (no_value_decides l))
      (either (is_read_only l) (has_index s) (rules.IsReadOnly l) (rules.HasIndex s) (read_only_decides l) (has_index_decides s)))
  moved (Number at z) = none rule.T7 (λ p. ⊥) (λ p v. v)
  moved (Truth at b) = none rule.T7 (λ p. ⊥) (λ p v. v)
  moved (Calls at c) = none rule.T7 (λ p. ⊥) (λ p v. v)
  moved (Awaits at name) = none rule.T7 (λ p. ⊥) (λ p v. v)
  moved (Array at xs) = none rule.T7 (λ p. ⊥) (λ p v. v)
  moved (Filled at len value) = none rule.T7 (λ p. ⊥) (λ p v. v)
  moved (Count at root s) = none rule.T7 (λ p. ⊥) (λ p v. v)
  moved (Lambda at captures params result body) = none rule.T7 (λ p. ⊥) (λ p v. v)
  moved (Prefix at o x) = none rule.T7 (λ p. ⊥) (λ p v. v)
  moved (Chain at first links) = none rule.T7 (λ p. ⊥) (λ p v. v)

  value : (c : Option Conv) (x : CoreExpr) → Exact (spec.value_t7 tree holding scope c x) rule.T7 (λ p. rules.ValueT7 tree scope p c x)
  value None x = none rule.T7 (λ p. ⊥) (λ p v. v)
  value (Some conv.Let) x = none rule.T7 (λ p. ⊥) (λ p v. v)
  value (Some conv.Inout) x = none rule.T7 (λ p. ⊥) (λ p v. v)
  value (Some conv.Sink) x = moved x
  value (Some conv.Set) x = none rule.T7 (λ p. ⊥) (λ p v. v)

  pub passed : (wanted : List Wanted) (xs : CoreArgs) → Exact (spec.arg_t7 tree holding scope wanted xs) rule.T7 (λ p. rules.ArgT7 tree scope p wanted xs)
  passed wanted NoArgs = none rule.T7 (λ p. ⊥) (λ p v. v)
  passed [] (ValueArg x rest) = passed [] rest
  passed [] (RefArg at root s rest) = both (spec.root_t7 tree holding scope root) (spec.arg_t7 tree holding scope [] rest) rule.T7 (λ p. rules.RootReadOnly tree scope p root) (λ p. rules.ArgT7 tree scope p [] rest) (root_changed root) (passed [] rest)
  passed (w ∷ ws) (ValueArg x rest) = both (spec.value_t7 tree holding scope w.conv x) (spec.arg_t7 tree holding scope ws rest) rule.T7 (λ p. rules.ValueT7 tree scope p w.conv x) (λ p. rules.ArgT7 tree scope p ws rest) (value w.conv x) (passed ws rest)
  passed (w ∷ ws) (RefArg at root s rest) = both (spec.root_t7 tree holding scope root) (spec.arg_t7 tree holding scope ws rest) rule.T7 (λ p. rules.RootReadOnly tree scope p root) (λ p. rules.ArgT7 tree scope p ws rest) (root_changed root) (passed ws rest)

  pub call_passed : (s : Signature) (xs : CoreArgs) → Exact (spec.arg_t7 tree holding scope (spec.wanted_by s) xs) rule.T7 (λ p. rules.ArgT7 tree scope p (rules.wanted_by tree scope p s) xs)
  call_passed NoSignature xs = passed [] xs
  call_passed (Signed wanted t) xs = passed wanted xs

  pub called : (root : Name) (s : CoreSteps) → Exact (spec.callee_t8 tree holding scope root s) rule.T8 (λ p. (root.place ≡ p) × rules.NoFunction tree scope p (spec.place_here tree holding scope root s))
  called root s =
      let t = spec.place_here tree holding scope root s in
      one (no_function t) rule.T8 root.place (λ p. (root.place ≡ p) × rules.NoFunction tree scope p t) (λ e. (refl, (no_function_decides tree scope root.place t).0 e)) (λ p v. (v.0, (no_function_decides tree scope p t).1 v.1))

  -- ---- function values

  module _ (exact : Holding tree holding) where
    pub compared : (first : CoreExpr) (links : CoreLinks) → Exact (spec.link_t9 tree holding scope first links) rule.T9 (λ p. rules.LinkT9 tree scope p first links)
    compared first NoLinks = none rule.T9 (λ p. ⊥) (λ p v. v)
    compared first (LinkOf o at x rest) =
        let t = spec.type_here tree holding scope first in
        let u = spec.type_here tree holding scope x in
        let a = known_to_hold holding t in
        let b = known_to_hold holding u in
        both (spec.only (is_equality o && (a || b)) (spec.refusal rule.T9 at)) (spec.link_t9 tree holding scope x rest) rule.T9
        (λ p. rules.IsEquality o × (at ≡ p) × (rules.KnownToHold tree t ⊎ rules.KnownToHold tree u)) (λ p. rules.LinkT9 tree scope p x rest)
        (between (is_equality o && (a || b)) rule.T9 at (rules.IsEquality o) (rules.KnownToHold tree t ⊎ rules.KnownToHold tree u)
        (Decides-and (is_equality o) (a || b) (equality_decides o) (either a b (rules.KnownToHold tree t) (rules.KnownToHold tree u) (known_to_hold_decides tree holding exact t) (known_to_hold_decides tree holding exact u))))
        (compared x rest)

    pub held : (names : List Name) → Exact (spec.capture_t9 tree holding scope names) rule.T9 (λ p. rules.CaptureT9 tree scope p names)
    held [] = none rule.T9 (λ p. ⊥) (λ p v. v)
    held (name ∷ names) =
        let t = known (value_of (spec.local_named tree holding scope name)) in
        both (spec.only (known_to_hold holding t) (spec.refusal rule.T9 name.place)) (spec.capture_t9 tree holding scope names) rule.T9
        (λ p. (name.place ≡ p) × rules.KnownToHold tree t) (λ p. rules.CaptureT9 tree scope p names)
        (here (known_to_hold holding t) rule.T9 name.place (rules.KnownToHold tree t) (known_to_hold_decides tree holding exact t)) (held names)

    pub printed : (x : CoreExpr) → Exact (spec.print_t9 tree holding scope x) rule.T9 (λ p. (rules.expr_place x ≡ p) × rules.KnownToHold tree (spec.type_here tree holding scope x))
    printed x = let t = spec.type_here tree holding scope x in here (known_to_hold holding t) rule.T9 (rules.expr_place x) (rules.KnownToHold tree t) (known_to_hold_decides tree holding exact t)
