-- Places, names and callees, over the runs of their indices.
use Rattle.std.proofs.Common.{◌≡◌, ◌⊎◌, inl, inr, ℕ, ◌+◌, if◌then◌else◌, List, length, Option, Some, None, refl, sym, ap, ◌∙◌, subst}
use Rattle.hv_tree.specs.declared.place.Place.{Place}
use Rattle.hv_tree.specs.declared.types.Name.{Name}
use Rattle.hv_tree.specs.declared.refusal.Rule.TheVariants as rule
use Rattle.hv_tree.specs.Core.{Core, FunOf, CoreFun, CoreStruct, Path, CoreSteps, NoSteps, FieldStep, IndexStep, CallOf, CoreArgs}
use Rattle.hv_decls.specs.Types.{ValueType, IntType, BoolType, StructType, ArrayType, FunType, FunToType, ParamTypes, option_meant, params_of, fun_type, fun_in, struct_in}
use Rattle.hv_decls.specs.Locals.{Local, CoreBody, fun_body, locals_of, number_in, local_in, value_of}
use Rattle.hv_decls.specs.Sites.{Scope, ExprPart, CallPart, site, sites_of, bodies_of}
use Rattle.hv_decls.specs.Statics.{static_steps, type_behind}
use Rattle.hv_type_rules.specs.Typing.{known, or_nothing, Signature, Signed, wanted_params, by_value, by_struct, by_fun, by_name, signature_by, fun_value, named_value, path_by, place_type}
use Rattle.hv_type_rules.specs.TypeRules.{NoValue, StepMisfits, StepsT3, NoFunction}
use Rattle.hv_value.specs.ValueTree.{ValueTree, Closure, Parts, Nil}
use Rattle.hv_value.specs.Walk.{Link}
use Rattle.hv_value.specs.Sizes.{copy_cost}
use Rattle.hv_sem_copying.specs.declared.end.Cause.TheVariants.{Kinds, Holes}
use Rattle.hv_sem_copying.specs.Run.{Run, ◌>>=◌, pure, stuck, pay}
use Rattle.hv_sem_copying.specs.Ops.{Spot}
use Rattle.hv_sem_copying.specs.Places.{type_of, whole, copied, found, body_number}
use Rattle.hv_sem_copying.specs.Calls.{Callee, Constructs, Enters, value_callee, struct_callee, fun_callee, top_callee, callee}
use Rattle.hv_sem_copying.specs.Evaluate.{function_value, top_value, named}
use Rattle.hv_sem_copying.specs.Copying.{Locals, copying}
use Rattle.hv_lemmas.proofs.Members.{Among}
use Rattle.hv_law_formed.specs.Formed.{IsBody}
use Rattle.hv_law_safe.proofs.Ends.{Does, bind, next, given, before, behind, gives, then_pure, then_known, then_pay}
use Rattle.hv_law_formed.proofs.Inside.{Good, good_fun}
use Rattle.hv_law_safe.proofs.Lists.{fun_found, struct_found}
use Rattle.hv_law_formed.proofs.Fits.{Fits, FitLocals, f_closure, locals_none, body_type, IsFunction, is_closure, no_hole}
use Rattle.hv_law_formed.proofs.Ways.{LinksFit}
use Rattle.hv_law_safe.proofs.Asked.{ValueOf}
use Rattle.hv_law_safe.proofs.Accepted.{Accepted, refused, IsLocal, IsTop, body_numbered}
use Rattle.hv_law_safe.proofs.Matches.{Matches, IsPlace, finds_place}

-- ---- in a body and a scope

-- so many references are in use
abbrev pub used : CoreBody → List ValueType → ℕ
used body refs = length (locals_of body) + length refs

-- the state before and after each expression
abbrev pub State : Core → CoreBody → Scope → List ValueType → Locals → Type 0
State tree body s refs = Matches tree body s.visible refs

-- the steps behind something of this type violate nothing
pub record StepsFine (tree : Core) (s : Scope) (t : Option ValueType) (steps : CoreSteps) : Type 0 where
  pub t1 : (place : Place) → StepMisfits tree s place t steps → ⊥
  pub t3 : (place : Place) → StepsT3 tree s place t steps → ⊥

-- what the steps behind something of type t lead to
pub record Behind (tree : Core) (t : ValueType) (steps : CoreSteps) (ls : List (Link Place)) : Type 0 where
  pub ty : ValueType
  pub leads : type_behind tree (Some t) steps ≡ Some ty
  pub links : LinksFit tree t ls ty

-- a value behind the steps
pub record Copied (tree : Core) (t : ValueType) (steps : CoreSteps) (v : ValueTree) : Type 0 where
  pub ty : ValueType
  pub leads : type_behind tree (Some t) steps ≡ Some ty
  pub fits : Fits tree ty v

-- a place behind the steps
pub record PlaceOf (tree : Core) (body : CoreBody) (visible : List Local) (refs : List ValueType) (t : ValueType) (steps : CoreSteps) (f : Spot × ValueTree) (e : Locals) : Type 0 where
  pub ty : ValueType
  pub leads : type_behind tree (Some t) steps ≡ Some ty
  pub place : IsPlace tree body visible refs ty f e

pub then_whole : {X : Type 0} {tree : Core} {n : ℕ} {P : Locals → Type 0} {R : X → Locals → Type 0} {t : ValueType} (v : ValueTree) (f : ValueTree → Run (Unit {0}) Locals X) → Fits tree t v → Does n P R (f v) → Does n P R (whole v >>= f)
then_whole {n = n} {P = P} {R = R} v f h k = subst (λ b. Does n P R ((if b then pure v else stuck Holes) >>= f)) (sym (no_hole h)) (then_pure v f k)

-- copying a value of a type
pub copies : {tree : Core} {body : CoreBody} {visible : List Local} {refs : List ValueType} {n : ℕ} {t : ValueType} {steps : CoreSteps} (at : Place) {place : Run (Unit {0}) Locals (Spot × ValueTree)} →
    Does n (Matches tree body visible refs) (PlaceOf tree body visible refs t steps) place → Does n (Matches tree body visible refs) (λ v e. Copied tree t steps v × Matches tree body visible refs e) (copied at place)
copies {tree = tree} {body = body} {visible = visible} {refs = refs} {n = n} {t = t} {steps = steps} at h = bind h (λ f. by f)
  where
    by : (f : Spot × ValueTree) → Does n (PlaceOf tree body visible refs t steps f) (λ v e. Copied tree t steps v × Matches tree body visible refs e) (whole f.1 >>= (λ v. pay (copy_cost v) at >>= (λ paid. pure v)))
    by f = before {P = λ e. Copied tree t steps f.1 × Matches tree body visible refs e} (λ e p. (record { ty = p.ty; leads = p.leads; fits = p.place.fits }, p.place.matches)) (given (λ c. then_whole f.1 _ c.fits (then_pay (copy_cost f.1) at _ (gives f.1 c))))

-- a callee with this signature
pub data CalleeFits (tree : Core) (sig : Signature) : Callee → Type 0 where
  constructs : (c : CoreStruct) → struct_in tree.decls c.name.text ≡ Some c → sig ≡ by_struct (Some c) → CalleeFits tree sig Constructs
  enters : {f : ℕ} {captures : Parts} (b : CoreBody) → IsBody tree f b → Good tree b → FitLocals tree b.captures captures → sig ≡ Signed (wanted_params (params_of b.params)) (or_nothing (option_meant b.result)) → CalleeFits tree sig (Enters f captures)

is_function : (tree : Core) (s : Scope) (place : Place) (t : ValueType) → (NoFunction tree s place (Some t) → ⊥) → IsFunction t
is_function tree s place IntType n = n tt
is_function tree s place BoolType n = n tt
is_function tree s place (StructType c) n = n tt
is_function tree s place (ArrayType t) n = n tt
is_function tree s place (FunType params) n = tt
is_function tree s place (FunToType params t) n = tt

module _ {tree : Core} (ok : Accepted tree) (body : CoreBody) (good : Good tree body) (edge : ℕ) (s : Scope) (refs : List ValueType) where
  pub root_type : {text : List ℕ} (r : IsLocal body edge s text) → value_of (local_in (locals_of body) text) ≡ Some r.there.ty
  root_type r = ap value_of r.found ∙ r.there.typed

  pub root_here : {text : List ℕ} (r : IsLocal body edge s text) → value_of (local_in s.visible text) ≡ Some r.there.ty
  root_here r = ap value_of r.here ∙ r.there.typed

  -- a place by its root's number and its links
  pub finds : (root : Name) (steps : CoreSteps) (r : IsLocal body edge s root.text) {ixs : Run (Unit {0}) Locals (List (Link Place))} →
      Does (used body refs) (State tree body s refs) (λ ls e. Behind tree r.there.ty steps ls × State tree body s refs e) ixs →
      Does (used body refs) (State tree body s refs) (PlaceOf tree body s.visible refs r.there.ty steps) (found copying (locals_of body) tree root steps ixs)
  finds root steps r h =
      then_known Kinds (number_in (locals_of body) root.text) r.there.number _ r.numbered (next h (λ ls b.
      behind (finds_place r.local (record { root = r.there.number; written = static_steps tree (type_of (locals_of body) root) steps; links = ls }) r.visible r.there.at r.there.typed b.links) (λ f e p. record { ty = b.ty; leads = b.leads; place = p })))

  -- ---- names as values

  path_value : {text : List ℕ} (root : Name) (steps : CoreSteps) (r : IsLocal body edge s text) (v : ValueTree) → Copied tree r.there.ty steps v → ValueOf tree (path_by tree (local_in s.visible text) root steps) v
  path_value root steps r v c =
      subst (λ k. ValueOf tree k v) (sym (ap (λ o. path_by tree o root steps) r.here ∙ (ap (λ o. known (type_behind tree o steps)) r.there.typed ∙ ap known c.leads))) c.fits

  pub named_local : (root : Name) (steps : CoreSteps) (r : IsLocal body edge s root.text) {place : Run (Unit {0}) Locals (Spot × ValueTree)} →
      Does (used body refs) (State tree body s refs) (PlaceOf tree body s.visible refs r.there.ty steps) place →
      Does (used body refs) (State tree body s refs) (λ v e. ValueOf tree (path_by tree (local_in s.visible root.text) root steps) v × State tree body s refs e) (named tree (number_in (locals_of body) root.text) root steps place)
  named_local root steps r {place = place} h =
      subst (λ o. Does (used body refs) (State tree body s refs) (λ v e. ValueOf tree (path_by tree (local_in s.visible root.text) root steps) v × State tree body s refs e) (named tree o root steps place)) (sym r.numbered)
      (behind (copies root.place h) (λ v e c. (path_value root steps r v c.0, c.1)))

  fun_is_value : (f : CoreFun) → Among tree.decls (FunOf f) → Does (used body refs) (State tree body s refs) (λ v e. Fits tree (body_type (fun_body f)) v × State tree body s refs e) (function_value tree (Some f))
  fun_is_value f i =
      let g = good_fun tree f i in
      let b = body_numbered ok (fun_body f) g.listed in
      then_known Kinds (body_number (bodies_of tree) f.body) b.0 _ b.1 (gives (Closure b.0 Nil) (f_closure (fun_body f) b.2 g refl locals_none))

  pub no_local_value : {text : List ℕ} → IsTop tree body s text → NoValue (local_in s.visible text)
  no_local_value t = subst NoValue (sym t.here) tt

  pub top_is_value : (at : Place) (root : Name) (steps : CoreSteps) → Among (sites_of tree) (site s (ExprPart (Path at root steps))) → IsTop tree body s root.text →
      Does (used body refs) (State tree body s refs) (λ v e. ValueOf tree (named_value tree root steps) v × State tree body s refs e) (top_value tree root steps)
  top_is_value at root (FieldStep name rest) i t = absurd (refused ok (site s (ExprPart (Path at root (FieldStep name rest)))) i rule.T6 root.place refl (refl, no_local_value t))
  top_is_value at root (IndexStep to x rest) i t = absurd (refused ok (site s (ExprPart (Path at root (IndexStep to x rest)))) i rule.T6 root.place refl (refl, no_local_value t))
  top_is_value at root NoSteps i t = by t.declared
    where
      by : ((f : CoreFun) × (fun_in tree.decls root.text ≡ Some f)) ⊎ ((fun_in tree.decls root.text ≡ None) × ((c : CoreStruct) × (struct_in tree.decls root.text ≡ Some c))) →
          Does (used body refs) (State tree body s refs) (λ v e. ValueOf tree (fun_value (fun_in tree.decls root.text)) v × State tree body s refs e) (function_value tree (fun_in tree.decls root.text))
      by (inl (f, e)) =
          subst (λ o. Does (used body refs) (State tree body s refs) (λ v e. ValueOf tree (fun_value o) v × State tree body s refs e) (function_value tree o)) (sym e)
          (fun_is_value f (fun_found tree.decls root.text f e).0)
      by (inr (n, (c, e))) = absurd (refused ok (site s (ExprPart (Path at root NoSteps))) i rule.T6 root.place refl (refl, inr (no_local_value t, (λ q. let u : Some c ≡ None = sym e ∙ q in cc))))

  pub named_top : (at : Place) (root : Name) (steps : CoreSteps) → Among (sites_of tree) (site s (ExprPart (Path at root steps))) → (t : IsTop tree body s root.text) (place : Run (Unit {0}) Locals (Spot × ValueTree)) →
      Does (used body refs) (State tree body s refs) (λ v e. ValueOf tree (path_by tree (local_in s.visible root.text) root steps) v × State tree body s refs e) (named tree (number_in (locals_of body) root.text) root steps place)
  named_top at root steps i t place =
      subst (λ l. Does (used body refs) (State tree body s refs) (λ v e. ValueOf tree (path_by tree l root steps) v × State tree body s refs e) (named tree (number_in (locals_of body) root.text) root steps place)) (sym t.here)
      (subst (λ o. Does (used body refs) (State tree body s refs) (λ v e. ValueOf tree (named_value tree root steps) v × State tree body s refs e) (named tree o root steps place)) (sym t.numbered)
      (top_is_value at root steps i t))

  -- ---- callees

  signed : (t : ValueType) (b : CoreBody) → t ≡ body_type b → by_value (Some t) ≡ Signed (wanted_params (params_of b.params)) (or_nothing (option_meant b.result))
  signed t b e = ap (λ u. by_value (Some u)) e ∙ by (params_of b.params) (option_meant b.result)
    where
      by : (ps : ParamTypes) (o : Option ValueType) → by_value (Some (fun_type ps o)) ≡ Signed (wanted_params ps) (or_nothing o)
      by ps None = refl
      by ps (Some t) = refl

  -- a copied callee is a function
  value_called : (sig : Signature) (t : ValueType) (v : ValueTree) → sig ≡ by_value (Some t) → IsFunction t → Fits tree t v →
      Does (used body refs) (State tree body s refs) (λ who e. CalleeFits tree sig who × State tree body s refs e) (value_callee v)
  value_called sig t v q i h =
      let m = is_closure h i in
      subst (λ w. Does (used body refs) (State tree body s refs) (λ who e. CalleeFits tree sig who × State tree body s refs e) (value_callee w)) (sym m.is)
      (gives (Enters m.number m.captures) (enters m.body m.numbered m.good m.captured (q ∙ signed t m.body m.typed)))

  pub callee_local : (root : Name) (steps : CoreSteps) (paren : Place) (args : CoreArgs) → Among (sites_of tree) (site s (CallPart (CallOf root steps paren args))) → (r : IsLocal body edge s root.text) {place : Run (Unit {0}) Locals (Spot × ValueTree)} →
      Does (used body refs) (State tree body s refs) (PlaceOf tree body s.visible refs r.there.ty steps) place →
      Does (used body refs) (State tree body s refs) (λ who e. CalleeFits tree (signature_by tree (local_in s.visible root.text) root steps) who × State tree body s refs e) (callee tree (number_in (locals_of body) root.text) root steps place)
  callee_local root steps paren args i r {place = place} h =
      subst (λ o. Does (used body refs) (State tree body s refs) (λ who e. CalleeFits tree (signature_by tree (local_in s.visible root.text) root steps) who × State tree body s refs e) (callee tree o root steps place)) (sym r.numbered)
      (next (copies root.place h) (λ v c.
      let leads : place_type tree s.visible root steps ≡ Some c.ty = ap (λ o. type_behind tree o steps) (root_here r) ∙ c.leads in
      let sig : signature_by tree (local_in s.visible root.text) root steps ≡ by_value (Some c.ty) = ap (λ o. signature_by tree o root steps) r.here ∙ (ap (λ o. by_value (type_behind tree o steps)) r.there.typed ∙ ap by_value c.leads) in
      value_called (signature_by tree (local_in s.visible root.text) root steps) c.ty v sig
      (is_function tree s root.place c.ty (λ n. refused ok (site s (CallPart (CallOf root steps paren args))) i rule.T8 root.place refl (refl, subst (NoFunction tree s root.place) (sym leads) n))) c.fits))

  fun_called : (sig : Signature) (f : CoreFun) (c : Option CoreStruct) → Among tree.decls (FunOf f) → sig ≡ by_fun (Some f) (by_struct c) →
      Does (used body refs) (State tree body s refs) (λ who e. CalleeFits tree sig who × State tree body s refs e) (fun_callee tree (Some f) c)
  fun_called sig f c i q =
      let g = good_fun tree f i in
      let b = body_numbered ok (fun_body f) g.listed in
      then_known Kinds (body_number (bodies_of tree) f.body) b.0 _ b.1 (gives (Enters b.0 Nil) (enters (fun_body f) b.2 g locals_none q))

  pub callee_top : (root : Name) (steps : CoreSteps) (paren : Place) (args : CoreArgs) → Among (sites_of tree) (site s (CallPart (CallOf root steps paren args))) → (t : IsTop tree body s root.text) (place : Run (Unit {0}) Locals (Spot × ValueTree)) →
      Does (used body refs) (State tree body s refs) (λ who e. CalleeFits tree (signature_by tree (local_in s.visible root.text) root steps) who × State tree body s refs e) (callee tree (number_in (locals_of body) root.text) root steps place)
  callee_top root steps paren args i t place =
      subst (λ l. Does (used body refs) (State tree body s refs) (λ who e. CalleeFits tree (signature_by tree l root steps) who × State tree body s refs e) (callee tree (number_in (locals_of body) root.text) root steps place)) (sym t.here)
      (subst (λ o. Does (used body refs) (State tree body s refs) (λ who e. CalleeFits tree (by_name tree root steps) who × State tree body s refs e) (callee tree o root steps place)) (sym t.numbered)
      (by_steps steps i))
    where
      by : ((f : CoreFun) × (fun_in tree.decls root.text ≡ Some f)) ⊎ ((fun_in tree.decls root.text ≡ None) × ((c : CoreStruct) × (struct_in tree.decls root.text ≡ Some c))) →
          Does (used body refs) (State tree body s refs) (λ who e. CalleeFits tree (by_name tree root NoSteps) who × State tree body s refs e) (top_callee tree root NoSteps)
      by (inl (f, e)) =
          subst (λ o. Does (used body refs) (State tree body s refs) (λ who e. CalleeFits tree (by_fun o (by_struct (struct_in tree.decls root.text))) who × State tree body s refs e) (fun_callee tree o (struct_in tree.decls root.text))) (sym e)
          (fun_called (by_fun (Some f) (by_struct (struct_in tree.decls root.text))) f (struct_in tree.decls root.text) (fun_found tree.decls root.text f e).0 refl)
      by (inr (n, (c, e))) =
          subst (λ o. Does (used body refs) (State tree body s refs) (λ who e. CalleeFits tree (by_fun o (by_struct (struct_in tree.decls root.text))) who × State tree body s refs e) (fun_callee tree o (struct_in tree.decls root.text))) (sym n)
          (subst (λ o. Does (used body refs) (State tree body s refs) (λ who e. CalleeFits tree (by_struct o) who × State tree body s refs e) (struct_callee tree o)) (sym e)
          (gives Constructs (constructs c (subst (λ text. struct_in tree.decls text ≡ Some c) (sym (struct_found tree.decls root.text c e).1) e) refl)))

      by_steps : (steps : CoreSteps) → Among (sites_of tree) (site s (CallPart (CallOf root steps paren args))) →
          Does (used body refs) (State tree body s refs) (λ who e. CalleeFits tree (by_name tree root steps) who × State tree body s refs e) (top_callee tree root steps)
      by_steps NoSteps i = by t.declared
      by_steps (FieldStep name rest) i = absurd (refused ok (site s (CallPart (CallOf root (FieldStep name rest) paren args))) i rule.T6 root.place refl (inl (refl, no_local_value t)))
      by_steps (IndexStep to x rest) i = absurd (refused ok (site s (CallPart (CallOf root (IndexStep to x rest) paren args))) i rule.T6 root.place refl (inl (refl, no_local_value t)))
