-- What constructs come to, over the runs of their parts.
use Rattle.std.proofs.Common.{◌≡◌, ◌≢◌, inl, inr, ℕ, suc, ◌+◌, pos, List, [], ◌∷◌, ◌++◌, map, length, Option, Some, None, length-append, arith, refl, sym, ap, ◌∙◌, subst}
use Rattle.std.specs.List.{slice_get}
use Rattle.std.proofs.lemmas.Option.{slice_get_within}
use Rattle.hv_tree.specs.declared.place.Place.{Place}
use Rattle.hv_tree.specs.declared.types.Name.{Name}
use Rattle.hv_tree.specs.declared.types.Conv.TheVariants as conv
use Rattle.hv_tree.specs.Core.{Core, CoreStruct, CoreTy, CoreExpr, CoreSteps, FieldStep, IndexStep}
use Rattle.hv_decls.specs.Types.{ValueType, IntType, ArrayType, meant, option_meant, params_of, type_of_field, fields_or_none, FieldAt, element_of}
use Rattle.hv_decls.specs.Locals.{Captured, Local, CoreBody, entry_locals, locals_of, in_block, number_in, value_by, value_of}
use Rattle.hv_decls.specs.Sites.{Scope, capture_local, bodies_of}
use Rattle.hv_decls.specs.Statics.{type_behind, type_at, field_at, element_at}
use Rattle.hv_type_rules.specs.Typing.{Known, Unknown, Nothing, Is, or_nothing, Signature, Signed, wanted_params, by_struct, gives as signature_gives}
use Rattle.hv_type_rules.specs.Typing as typing
use Rattle.hv_type_rules.specs.TypeRules.{expr_place, Misfits, StepMisfits, StepsT3}
use Rattle.hv_value.specs.ValueTree.{ValueTree, Number, Fields, Parts, Nil, Cons, row}
use Rattle.hv_value.specs.Walk.{Link, ToField, ToIndex}
use Rattle.hv_value.specs.Operators.{count}
use Rattle.hv_sem_copying.specs.declared.end.TrapKind.TheVariants as trap_kind
use Rattle.hv_sem_copying.specs.declared.end.Cause.TheVariants.{Kinds, Holes}
use Rattle.hv_sem_copying.specs.Run.{Run, Flow, ◌>>=◌, pure, known as is_known}
use Rattle.hv_sem_copying.specs.Ops.{Spot, Mode, Reads, Value, Lent}
use Rattle.hv_sem_copying.specs.Ops as ops
use Rattle.hv_sem_copying.specs.Operations.{number}
use Rattle.hv_sem_copying.specs.Places.{all_of, counted, declared, all_found, captured}
use Rattle.hv_sem_copying.specs.Calls.{Deeper, Callee, Constructs, Enters, Placed, result_of, call_by, pass_value, entered}
use Rattle.hv_sem_copying.specs.Blocks.{bound}
use Rattle.hv_sem_copying.specs.Copying.{Locals, tree_at, copying}
use Rattle.hv_lemmas.proofs.Members.{Among}
use Rattle.hv_law_formed.specs.Formed.{IsBody}
use Rattle.hv_law_safe.proofs.Ends.{Does, bind, next, given, before, behind, gives, then_known, then_pay, traps, refers, writes, reads_under, calls}
use Rattle.hv_law_formed.proofs.Inside.{Good}
use Rattle.hv_law_safe.proofs.Lists.{get_left, among_at, Distinct, numbered}
use Rattle.hv_law_formed.proofs.Fits.{Fits, FitAll, FitLocals, locals_none, locals_more, f_fields, f_number, is_elements}
use Rattle.hv_law_formed.proofs.Ways.{LinksFit, l_end, l_field, l_index}
use Rattle.hv_law_safe.proofs.Asked.{ValueOf, stable, asked, then_number}
use Rattle.hv_law_safe.proofs.Accepted.{Accepted, IsLocal, all_distinct}
use Rattle.hv_law_safe.proofs.Matches.{Matches, declares, clears, forgets, lends, gives_back, IsPlace, finds_place, PassedFit, enters as enters_with, comes_back}
use Rattle.hv_law_safe.proofs.Named.{used, State, StepsFine, Behind, Copied, PlaceOf, copies, CalleeFits, constructs, enters}
use Rattle.hv_law_safe.proofs.Pieces.{array_type, struct_field, entry_typed}

-- ---- steps

module _ {tree : Core} {s : Scope} {n : ℕ} {M : Locals → Type 0} where
  field_by : (t : ValueType) (name : Name) (rest : CoreSteps) (ixs : Option ValueType → Run (Unit {0}) Locals (List (Link Place))) → StepsFine tree s (Some t) (FieldStep name rest) →
      ((u : ValueType) → StepsFine tree s (Some u) rest → Does n M (λ ls e. Behind tree u rest ls × M e) (ixs (Some u))) → (f : FieldAt) → field_at tree (Some t) name ≡ Some f →
      Does n M (λ ls e. Behind tree t (FieldStep name rest) ls × M e) (is_known Kinds (field_at tree (Some t) name) >>= (λ f. ixs (Some f.ty) >>= (λ ls. pure (ToField f.number ∷ ls))))
  field_by t name rest ixs fine go f e =
      let c = struct_field tree t name.text f e in
      let then_fine : StepsFine tree s (Some f.ty) rest = record {
        t1 = λ place v. fine.t1 place (subst (λ o. StepMisfits tree s place (type_at o) rest) (sym e) v);
        t3 = λ place v. fine.t3 place (inr (subst (λ o. StepsT3 tree s place (type_at o) rest) (sym e) v));
      } in
      then_known Kinds (field_at tree (Some t) name) f _ e (next (go f.ty then_fine) (λ ls b.
      gives (ToField f.number ∷ ls) (record { ty = b.ty; leads = ap (λ o. type_behind tree (type_at o) rest) e ∙ b.leads; links = subst (λ u. LinksFit tree u (ToField f.number ∷ ls) b.ty) (sym c.1) (l_field c.2 b.links) })))

  pub field_links : (t : ValueType) (name : Name) (rest : CoreSteps) (ixs : Option ValueType → Run (Unit {0}) Locals (List (Link Place))) → StepsFine tree s (Some t) (FieldStep name rest) →
      ((u : ValueType) → StepsFine tree s (Some u) rest → Does n M (λ ls e. Behind tree u rest ls × M e) (ixs (Some u))) →
      Does n M (λ ls e. Behind tree t (FieldStep name rest) ls × M e) (is_known Kinds (field_at tree (Some t) name) >>= (λ f. ixs (Some f.ty) >>= (λ ls. pure (ToField f.number ∷ ls))))
  field_links t name rest ixs fine go = by (field_at tree (Some t) name) refl
    where
      by : (o : Option FieldAt) → field_at tree (Some t) name ≡ o → Does n M (λ ls e. Behind tree t (FieldStep name rest) ls × M e) (is_known Kinds (field_at tree (Some t) name) >>= (λ f. ixs (Some f.ty) >>= (λ ls. pure (ToField f.number ∷ ls))))
      by None e = absurd (fine.t3 name.place (inl (e, refl)))
      by (Some f) e = field_by t name rest ixs fine go f e

  index_by : (u : ValueType) (at : Place) (x : CoreExpr) (rest : CoreSteps) (val : Run (Unit {0}) Locals ValueTree) (ixs : Option ValueType → Run (Unit {0}) Locals (List (Link Place))) → StepsFine tree s (Some (ArrayType u)) (IndexStep at x rest) →
      Does n M (λ v e. ValueOf tree (typing.type_of tree s.visible x) v × M e) val →
      ((u : ValueType) → StepsFine tree s (Some u) rest → Does n M (λ ls e. Behind tree u rest ls × M e) (ixs (Some u))) →
      Does n M (λ ls e. Behind tree (ArrayType u) (IndexStep at x rest) ls × M e) (val >>= (λ w. number w >>= (λ z. ixs (Some u) >>= (λ ls. pure (ToIndex z at ∷ ls)))))
  index_by u at x rest val ixs fine h go =
      let then_fine : StepsFine tree s (Some u) rest = record { t1 = λ place v. fine.t1 place (inr (inr v)); t3 = fine.t3 } in
      next h (λ w k.
      then_number w _ (asked IntType (typing.type_of tree s.visible x) w (λ m. fine.t1 (expr_place x) (inr (inl (refl, m)))) k) (λ z.
      next (go u then_fine) (λ ls b. gives (ToIndex z at ∷ ls) (record { ty = b.ty; leads = b.leads; links = l_index b.links }))))

  pub index_links : (t : ValueType) (at : Place) (x : CoreExpr) (rest : CoreSteps) (val : Run (Unit {0}) Locals ValueTree) (ixs : Option ValueType → Run (Unit {0}) Locals (List (Link Place))) → StepsFine tree s (Some t) (IndexStep at x rest) →
      Does n M (λ v e. ValueOf tree (typing.type_of tree s.visible x) v × M e) val →
      ((u : ValueType) → StepsFine tree s (Some u) rest → Does n M (λ ls e. Behind tree u rest ls × M e) (ixs (Some u))) →
      Does n M (λ ls e. Behind tree t (IndexStep at x rest) ls × M e) (val >>= (λ w. number w >>= (λ z. ixs (element_at (Some t)) >>= (λ ls. pure (ToIndex z at ∷ ls)))))
  index_links t at x rest val ixs fine h go =
      let a = array_type t (λ e. fine.t1 at (inl (e, refl))) in
      subst (λ t. Does n M (λ ls e. Behind tree t (IndexStep at x rest) ls × M e) (val >>= (λ w. number w >>= (λ z. ixs (element_at (Some t)) >>= (λ ls. pure (ToIndex z at ∷ ls)))))) (sym a.1)
      (index_by a.0 at x rest val ixs (subst (λ t. StepsFine tree s (Some t) (IndexStep at x rest)) a.1 fine) h go)

-- ---- `count`

counts_by : {tree : Core} {n : ℕ} (t : ValueType) (v : ValueTree) (f : ℕ → Run (Unit {0}) Locals ValueTree) (R : ValueTree → Locals → Type 0) (P : Locals → Type 0) (p : Spot) → (element_of t ≡ None → ⊥) → Fits tree t v → ((k : ℕ) → Does n P R (f k)) → Does n P R (counted (p, v) >>= f)
counts_by {tree = tree} {n = n} t v f R P p never h k =
    let a = array_type t never in
    let e = is_elements (subst (λ u. Fits tree u v) a.1 h) in
    subst (λ v. Does n P R (counted (p, v) >>= f)) (sym e.1) (then_known Holes (Some (count e.0)) (count e.0) f refl (k (count e.0)))

module _ {tree : Core} {body : CoreBody} {visible : List Local} {refs : List ValueType} {n : ℕ} where
  pub counts : (t : ValueType) (steps : CoreSteps) {place : Run (Unit {0}) Locals (Spot × ValueTree)} → Does n (Matches tree body visible refs) (PlaceOf tree body visible refs t steps) place → ((u : ValueType) → type_behind tree (Some t) steps ≡ Some u → element_of u ≡ None → ⊥) →
      Does n (Matches tree body visible refs) (λ v e. Fits tree IntType v × Matches tree body visible refs e) (place >>= (λ f. counted f >>= (λ k. pure (Number (pos k)))))
  counts t steps h never = bind h (λ f. by f)
    where
      by : (f : Spot × ValueTree) → Does n (PlaceOf tree body visible refs t steps f) (λ v e. Fits tree IntType v × Matches tree body visible refs e) (counted f >>= (λ k. pure (Number (pos k))))
      by f =
          before {P = λ e. Copied tree t steps f.1 × Matches tree body visible refs e} (λ e p. (record { ty = p.ty; leads = p.leads; fits = p.place.fits }, p.place.matches))
          (given (λ c. counts_by c.ty f.1 (λ k. pure (Number (pos k))) (λ v e. Fits tree IntType v × Matches tree body visible refs e) (Matches tree body visible refs) f.0 (never c.ty c.leads) c.fits (λ k. gives (Number (pos k)) f_number)))

-- ---- captures

pub capture_typed : {body : CoreBody} {edge : ℕ} {s : Scope} (name : Name) → IsLocal body edge s name.text → (t : ValueType) × (value_by Captured (capture_local s.visible name).ty ≡ Some t)
capture_typed name r = (r.there.ty, ap value_of r.here ∙ r.there.typed)

module _ {tree : Core} (body : CoreBody) {edge : ℕ} (s : Scope) (refs : List ValueType) where
  all_of_local : (name : Name) (r : IsLocal body edge s name.text) → Does (used body refs) (State tree body s refs) (PlaceOf tree body s.visible refs r.there.ty CoreSteps.NoSteps) (all_found copying (locals_of body) name)
  all_of_local name r =
      then_known Kinds (number_in (locals_of body) name.text) r.there.number _ r.numbered
      (behind (finds_place r.local (record { root = r.there.number; written = []; links = [] }) r.visible r.there.at r.there.typed l_end) (λ f e p. record { ty = r.there.ty; leads = refl; place = p }))

  pub captures : (names : List Name) → ((name : Name) → Among names name → IsLocal body edge s name.text) → Does (used body refs) (State tree body s refs) (λ vs e. FitLocals tree (map (capture_local s.visible) names) vs × State tree body s refs e) (captured copying (locals_of body) names)
  captures [] go = gives Nil locals_none
  captures (name ∷ names) go =
      let r = go name (inl refl) in
      next (copies name.place (all_of_local name r)) (λ v c.
      next (captures names (λ m i. go m (inr i))) (λ vs h.
      let same : Some r.there.ty ≡ Some c.ty = c.leads in
      gives (Cons v vs) (locals_more c.ty (ap value_of r.here ∙ (r.there.typed ∙ same)) c.fits h)))

-- ---- calls

-- what a body gives back: a value of its result, if it has one
abbrev pub Returned : Core → Option CoreTy → Flow → Type 0
Returned tree None flow = Unit {0}
Returned tree (Some t) None = ⊥
Returned tree (Some t) (Some v) = Fits tree (meant t) v

-- a run of a body that ends with what the body promises
pub record BodyOk (tree : Core) (b : CoreBody) (run : Run (Unit {0}) Locals Flow) : Type 0 where
  pub ok : (n : ℕ) → Does n (Matches tree b (entry_locals b) []) (λ flow e. Returned tree b.result flow × Matches tree b (entry_locals b) [] e) run

-- the bodies one activation further in
abbrev pub DeeperOk : Core → Deeper (Unit {0}) Locals → Type 0
DeeperOk tree None = Unit {0}
DeeperOk tree (Some run) = (f : ℕ) (b : CoreBody) → IsBody tree f b → Good tree b → BodyOk tree b (run f)

module _ {tree : Core} (ok : Accepted tree) (body : CoreBody) (s : Scope) where
  pub enters_body : (deeper : Deeper (Unit {0}) Locals) → DeeperOk tree deeper → (at : Place) (f : ℕ) (b : CoreBody) → IsBody tree f b → Good tree b → (refs : List ValueType) (qs : List ops.Passed) → PassedFit tree (length (locals_of body)) refs (entry_locals b) qs →
      Does (used body refs) (State tree body s refs) (λ flow e. Returned tree b.result flow × State tree body s refs e) (entered copying deeper at f b qs)
  enters_body None k at f b i g refs qs p = traps trap_kind.TooDeep at
  enters_body (Some run) k at f b i g refs qs p =
      then_pay 1 at _ (calls (length (locals_of b)) qs (λ e m. enters_with e b (all_distinct ok b g.listed) p m) ((k f b i g).ok (used body refs)) (λ e callee flow m r. (r.0, comes_back e callee 0 p (λ j l t at ty. back callee r.1 j l t at ty) m)))
    where
      back : (callee : Locals) → Matches tree b (entry_locals b) [] callee → (j : ℕ) (l : Local) (t : ValueType) → slice_get (entry_locals b) j ≡ Some l → l.ty ≡ Some t → Fits tree t (tree_at callee (0 + j))
      back callee m j l t at ty =
          let n : j ≡ 0 + j = omega arith in
          let i = among_at (entry_locals b) j l at in
          subst (λ y. Fits tree t (tree_at callee y)) n (m.here l j t i (get_left (entry_locals b) (in_block b.block) j l at) (entry_typed b g l t i ty))

  returned_value : (result : Option CoreTy) (flow : Flow) → Returned tree result flow → ValueOf tree (or_nothing (option_meant result)) (result_of flow)
  returned_value None flow h = tt
  returned_value (Some t) None h = absurd h
  returned_value (Some t) (Some v) h = h

  pub calls_by : (refs : List ValueType) (sig : Signature) (who : Callee) (parts : Run (Unit {0}) Locals (List ValueTree)) (go : ℕ → Parts → CoreBody → Run (Unit {0}) Locals Flow) → CalleeFits tree sig who →
      ((c : CoreStruct) → sig ≡ by_struct (Some c) → Does (used body refs) (State tree body s refs) (λ ws e. FitAll tree (map type_of_field c.fields) (row ws) × State tree body s refs e) parts) →
      ((f : ℕ) (vs : Parts) (b : CoreBody) → IsBody tree f b → Good tree b → FitLocals tree b.captures vs → sig ≡ Signed (wanted_params (params_of b.params)) (or_nothing (option_meant b.result)) →
      Does (used body refs) (State tree body s refs) (λ flow e. Returned tree b.result flow × State tree body s refs e) (go f vs b)) →
      Does (used body refs) (State tree body s refs) (λ v e. ValueOf tree (signature_gives sig) v × State tree body s refs e) (call_by tree who parts go)
  calls_by refs sig Constructs parts go (constructs c e q) h k =
      next (h c q) (λ ws f.
      gives (Fields (row ws)) (subst (λ g. ValueOf tree (signature_gives g) (Fields (row ws))) (sym q) (f_fields (subst (λ o. FitAll tree (map type_of_field (fields_or_none o)) (row ws)) (sym e) f))))
  calls_by refs sig (Enters f vs) parts go (enters b i g l q) h k =
      then_known Kinds (slice_get (bodies_of tree) f) b _ i (next (k f vs b i g l q) (λ flow r.
      gives (result_of flow) (subst (λ g. ValueOf tree (signature_gives g) (result_of flow)) (sym q) (returned_value b.result flow r))))

-- ---- arguments and bindings

-- the place of an expression, of its type
pub record ArgPlace (tree : Core) (body : CoreBody) (s : Scope) (refs : List ValueType) (x : CoreExpr) (f : Spot × ValueTree) (e : Locals) : Type 0 where
  pub ty : ValueType
  pub is : typing.type_of tree s.visible x ≡ Is ty
  pub place : IsPlace tree body s.visible refs ty f e

abbrev pub PlacedFit : Core → CoreBody → Scope → List ValueType → CoreExpr → Placed (Unit {0}) Locals → Type 0
PlacedFit tree body s refs x None = Unit {0}
PlacedFit tree body s refs x (Some place) = Does (used body refs) (State tree body s refs) (ArgPlace tree body s refs x) place

module _ (tree : Core) (body : CoreBody) (s : Scope) (x : CoreExpr) (t : ValueType) (fits : Misfits (Some t) (typing.type_of tree s.visible x) → ⊥) where
  is_asked : (k : Known) (u : ValueType) → (Misfits (Some t) k → ⊥) → k ≡ Is u → u ≡ t
  is_asked k u n e = stable u t (subst (λ k. Misfits (Some t) k → ⊥) e n)

  arg_fits : {refs : List ValueType} {f : Spot × ValueTree} {e : Locals} → ArgPlace tree body s refs x f e → Fits tree t f.1
  arg_fits {f = f} p = subst (λ u. Fits tree u f.1) (is_asked (typing.type_of tree s.visible x) p.ty fits p.is) p.place.fits

  pub passes : (refs : List ValueType) (A : Flow → Type 0) (o : Placed (Unit {0}) Locals) (val : Run (Unit {0}) Locals ValueTree) (go : ops.Passed → Run (Unit {0}) Locals Flow) → PlacedFit tree body s refs x o →
      Does (used body refs) (State tree body s refs) (λ v e. ValueOf tree (typing.type_of tree s.visible x) v × State tree body s refs e) val →
      ((v : ValueTree) → Fits tree t v → Does (used body refs) (State tree body s refs) (λ y e. A y × State tree body s refs e) (go (Value Reads v))) →
      Does (used body (refs ++ t ∷ [])) (State tree body s (refs ++ t ∷ [])) (λ y e. A y × State tree body s (refs ++ t ∷ []) e) (go (Lent (used body refs))) →
      Does (used body refs) (State tree body s refs) (λ y e. A y × State tree body s refs e) (pass_value copying conv.Let o val go)
  passes refs A None val go p h value lent = next h (λ v k. value v (asked t (typing.type_of tree s.visible x) v fits k))
  passes refs A (Some place) val go p h value lent =
      bind p (λ f.
      refers (λ r. copying.under Reads r f.0 (go (Lent r))) (reads_under (used body refs) f.0 (λ e q. (f.1, q.place.there, lends t f.1 (arg_fits q) q.place.matches)) (subst (λ k. Does k (State tree body s (refs ++ t ∷ [])) (λ y e. A y × State tree body s (refs ++ t ∷ []) e) (go (Lent (used body refs)))) one_more_used lent) (λ e m. gives_back t m)))
    where
      one_more_used : used body (refs ++ t ∷ []) ≡ suc (used body refs)
      one_more_used = omega (arith, length-append refs (t ∷ []))

  -- a local of this type begins
  pub begins : (refs : List ValueType) (l : Local) (r : ℕ) → Distinct (locals_of body) → slice_get (locals_of body) r ≡ Some l → l.ty ≡ Some t → (v : ValueTree) → Fits tree t v →
      Does (used body refs) (State tree body s refs) (λ u e. Matches tree body (l ∷ s.visible) refs e) (declared copying (locals_of body) l.name v)
  begins refs l r d at ty v f = then_known Kinds (number_in (locals_of body) l.name.text) r _ (numbered (locals_of body) r l d at) (writes (all_of r) v (λ e m. ((tree_at e r, refl), declares l r t v d at ty f m)))

  pub binds_local : (refs : List ValueType) (A : Flow → Type 0) (l : Local) (r : ℕ) (o : Placed (Unit {0}) Locals) (val : Run (Unit {0}) Locals ValueTree) (go : Run (Unit {0}) Locals Flow) → Distinct (locals_of body) → slice_get (locals_of body) r ≡ Some l → l.ty ≡ Some t →
      ((m : Local) (y : ℕ) → Among s.visible m → slice_get (locals_of body) y ≡ Some m → y ≢ r) → PlacedFit tree body s refs x o →
      Does (used body refs) (State tree body s refs) (λ v e. ValueOf tree (typing.type_of tree s.visible x) v × State tree body s refs e) val →
      Does (used body refs) (Matches tree body (l ∷ s.visible) refs) (λ y e. A y × Matches tree body (l ∷ s.visible) refs e) go →
      Does (used body refs) (State tree body s refs) (λ y e. A y × State tree body s refs e) (bound copying (locals_of body) l.name o val go)
  binds_local refs A l r None val go d at ty away p h rest =
      next h (λ v k.
      bind {Q = λ u e. Matches tree body (l ∷ s.visible) refs e} (begins refs l r d at ty v (asked t (typing.type_of tree s.visible x) v fits k)) (λ done.
      behind rest (λ y e q. (q.0, forgets l q.1))))
  binds_local refs A l r (Some place) val go d at ty away p h rest =
      bind p (λ f.
      then_known Kinds (number_in (locals_of body) l.name.text) r _ (numbered (locals_of body) r l d at)
      (reads_under r f.0 (λ e q. (f.1, q.place.there, declares l r t f.1 d at ty (arg_fits q) q.place.matches)) rest (λ e m. clears r (slice_get_within (locals_of body) r l at) away (forgets l m))))
