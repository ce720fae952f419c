-- What rules say of the pieces of a construct, and what its runs come to where those of its parts are known.
use Rattle.std.proofs.Common.{◌≡◌, ◌≢◌, ◌⊎◌, inl, inr, ℕ, zero, suc, ◌+◌, List, [], ◌∷◌, ◌++◌, map, length, Option, Some, None, arith, refl, sym, ap, ◌∙◌, subst}
use Rattle.std.specs.List.{slice_get}
use Rattle.std.proofs.lemmas.Option.{slice_get_within}
use Rattle.hv_tree.specs.declared.place.Place.{Place}
use Rattle.hv_tree.specs.declared.types.Conv.{Conv}
use Rattle.hv_tree.specs.declared.types.Conv.TheVariants as conv
use Rattle.hv_tree.specs.declared.ast.Operator.{Operator}
use Rattle.hv_tree.specs.Tokens.{Level}
use Rattle.hv_tree.specs.Core.{Core, CoreField, CoreParam, CoreExprs, NoExprs, ExprOf, CoreLinks, NoLinks, LinkOf, CoreArgs, NoArgs, ValueArg, RefArg}
use Rattle.hv_decls.specs.Types.{ValueType, IntType, BoolType, StructType, ArrayType, FunType, FunToType, meant, params_of, field_types, type_of_field, fields_or_none, field_of, FieldAt, element_of, struct_in}
use Rattle.hv_decls.specs.Locals.{Local, CoreBody, param_local, entry_locals, locals_of, in_block, value_by}
use Rattle.hv_decls.specs.Sites.{Scope, body_scope, Site, sites_of}
use Rattle.hv_type_rules.specs.Typing.{Known, Unknown, Nothing, Is, array_of, or_nothing, operand_type, given_type, Wanted, Signature, Signed, wanted_params, wanted_field, by_struct, gives as signature_gives, signature_of, by_links, first_type}
use Rattle.hv_type_rules.specs.Typing as typing
use Rattle.hv_type_rules.specs.TypeRules.{expr_place, Misfits, ElementMisfits, ArgMisfits, CallMisfits, count_of, CountDiffers, HasMark, MarkDiffers, CallT5}
use Rattle.hv_value.specs.ValueTree.{ValueTree, Elements, row}
use Rattle.hv_lemmas.proofs.Members.{Among, either_in, contained}
use Rattle.hv_law_formed.specs.Formed.{level_of, MayGoOn, AreOfLevel, HasElement, PartIsFormed}
use Rattle.hv_law_safe.specs.Runs.{PartRuns}
use Rattle.hv_law_formed.proofs.Inside.{Good}
use Rattle.hv_law_safe.proofs.Lists.{get_left, get_right, among_at, Distinct, numbered, field_found}
use Rattle.hv_law_formed.proofs.Fits.{Fits, FitAll, all_none, all_more, FitEach, each_none, each_more, f_elements}
use Rattle.hv_law_safe.proofs.Asked.{ValueOf, asked, Takes, given_by_level, taken_by_level}
use Rattle.hv_law_safe.proofs.Accepted.{Accepted, Seen, Scoped}
use Rattle.hv_law_safe.proofs.Matches.{value_typed}

pub runs_here : {tree : Core} → Accepted tree → (w : Site) → Among (sites_of tree) w → PartRuns w.part
runs_here {tree = tree} ok w i = ok.runs.parts w (contained (sites_of tree) w i)

pub formed_here : {tree : Core} → Accepted tree → (w : Site) → Among (sites_of tree) w → PartIsFormed w.part
formed_here {tree = tree} ok w i = ok.formed.parts w (contained (sites_of tree) w i)

-- ---- elements

-- each value is one of its expression
abbrev pub ValuesOf : Core → Scope → CoreExprs → List ValueTree → Type 0
ValuesOf tree s NoExprs [] = Unit {0}
ValuesOf tree s NoExprs (w ∷ ws) = ⊥
ValuesOf tree s (ExprOf x rest) [] = ⊥
ValuesOf tree s (ExprOf x rest) (w ∷ ws) = ValueOf tree (typing.type_of tree s.visible x) w × ValuesOf tree s rest ws

each_fits : (tree : Core) (s : Scope) (t : ValueType) (xs : CoreExprs) (ws : List ValueTree) → ((place : Place) → ElementMisfits tree s place (Is t) xs → ⊥) → ValuesOf tree s xs ws → FitEach tree t (row ws)
each_fits tree s t NoExprs [] n h = each_none
each_fits tree s t NoExprs (w ∷ ws) n h = absurd h
each_fits tree s t (ExprOf x rest) [] n h = absurd h
each_fits tree s t (ExprOf x rest) (w ∷ ws) n h =
    each_more (asked t (typing.type_of tree s.visible x) w (λ m. n (expr_place x) (inl (refl, m))) h.0) (each_fits tree s t rest ws (λ place m. n place (inr m)) h.1)

pub elements_fit : (tree : Core) (s : Scope) (xs : CoreExprs) (ws : List ValueTree) → HasElement xs → ((place : Place) → ElementMisfits tree s place (first_type tree s.visible xs) xs → ⊥) → ValuesOf tree s xs ws → ValueOf tree (array_of (first_type tree s.visible xs)) (Elements (row ws))
elements_fit tree s NoExprs ws e n h = absurd e
elements_fit tree s (ExprOf x rest) [] e n h = absurd h
elements_fit tree s (ExprOf x rest) (w ∷ ws) e n h = by (typing.type_of tree s.visible x) refl
  where
    by : (k : Known) → typing.type_of tree s.visible x ≡ k → ValueOf tree (array_of k) (Elements (row (w ∷ ws)))
    by Unknown q = absurd (subst (λ k. ValueOf tree k w) q h.0)
    by Nothing q = absurd (n (expr_place x) (subst (λ k. ElementMisfits tree s (expr_place x) k (ExprOf x rest)) (sym q) (inl (refl, subst (Misfits None) (sym q) tt))))
    by (Is t) q = f_elements (each_fits tree s t (ExprOf x rest) (w ∷ ws) (λ place m. n place (subst (λ k. ElementMisfits tree s place k (ExprOf x rest)) (sym q) m)) h)

-- ---- types that arrays and structs have

pub array_type : (t : ValueType) → (element_of t ≡ None → ⊥) → (u : ValueType) × (t ≡ ArrayType u)
array_type IntType n = absurd (n refl)
array_type BoolType n = absurd (n refl)
array_type (StructType c) n = absurd (n refl)
array_type (ArrayType u) n = (u, refl)
array_type (FunType params) n = absurd (n refl)
array_type (FunToType params u) n = absurd (n refl)

pub struct_field : (tree : Core) (t : ValueType) (text : List ℕ) (f : FieldAt) → field_of tree t text ≡ Some f → (c : List ℕ) × (t ≡ StructType c) × (slice_get (field_types tree c) f.number ≡ Some f.ty)
struct_field tree IntType text f e = cc
struct_field tree BoolType text f e = cc
struct_field tree (StructType c) text f e =
    let r = field_found 0 (fields_or_none (struct_in tree.decls c)) text f e in
    let n : r.0 ≡ f.number = omega (arith, r.1) in
    (c, refl, subst (λ i. slice_get (field_types tree c) i ≡ Some f.ty) n r.2)
struct_field tree (ArrayType u) text f e = cc
struct_field tree (FunType params) text f e = cc
struct_field tree (FunToType params u) text f e = cc

-- ---- chains

abbrev pub Ready : Core → CoreLinks → ValueTree → Type 0
Ready tree NoLinks w = Unit {0}
Ready tree (LinkOf o at x rest) w = Takes tree (operand_type o) w

pub takes : (tree : Core) (a : Option ValueType) (k : Known) (w : ValueTree) → (Misfits a k → ⊥) → ValueOf tree k w → Takes tree a w
takes tree None k w n h = tt
takes tree (Some a) k w n h = asked a k w n h

pub ready_next : {tree : Core} (o : Operator) (level : Level) (rest : CoreLinks) (w : ValueTree) → level_of o ≡ Some level → MayGoOn level rest → AreOfLevel level rest → Fits tree (given_type o) w → Ready tree rest w
ready_next o level NoLinks w e m a f = tt
ready_next {tree = tree} o level (LinkOf p at x rest) w e m a f =
    subst (λ t. Takes tree t w) (sym (taken_by_level p level a.0 m)) (subst (λ t. Fits tree t w) (given_by_level o level e) f)

pub links_give : (o : Operator) (level : Level) (rest : CoreLinks) → level_of o ≡ Some level → AreOfLevel level rest → by_links rest (Is (given_type o)) ≡ Is (given_type o)
links_give o level NoLinks e a = refl
links_give o level (LinkOf p at x rest) e a = ap Is (given_by_level p level a.0 ∙ sym (given_by_level o level e))

-- ---- arguments

abbrev pub SameCount : List Wanted → CoreArgs → Type 0
SameCount [] NoArgs = Unit {0}
SameCount [] (ValueArg x rest) = ⊥
SameCount [] (RefArg at root steps rest) = ⊥
SameCount (w ∷ ws) NoArgs = ⊥
SameCount (w ∷ ws) (ValueArg x rest) = SameCount ws rest
SameCount (w ∷ ws) (RefArg at root steps rest) = SameCount ws rest

same_count : (tree : Core) (s : Scope) (place : Place) (wanted : List Wanted) (args : CoreArgs) → count_of tree s place args ≡ length wanted → SameCount wanted args
same_count tree s place [] NoArgs e = tt
same_count tree s place [] (ValueArg x rest) e = absurd (omega (arith, e))
same_count tree s place [] (RefArg at root steps rest) e = absurd (omega (arith, e))
same_count tree s place (w ∷ ws) NoArgs e = absurd (omega (arith, e))
same_count tree s place (w ∷ ws) (ValueArg x rest) e = same_count tree s place ws rest (omega (arith, e))
same_count tree s place (w ∷ ws) (RefArg at root steps rest) e = same_count tree s place ws rest (omega (arith, e))

equal_numbers : (m n : ℕ) → ((m ≢ n) → ⊥) → m ≡ n
equal_numbers zero zero f = refl
equal_numbers zero (suc n) f = absurd (f (λ e. cc))
equal_numbers (suc m) zero f = absurd (f (λ e. cc))
equal_numbers (suc m) (suc n) f = ap suc (equal_numbers m n (λ g. f (λ e. g cc)))

-- what is taken is read alone
abbrev pub IsRead : Option Conv → Type 0
IsRead None = Unit {0}
IsRead (Some c) = c ≡ conv.Let

abbrev pub AllAreRead : List Wanted → Type 0
AllAreRead [] = Unit {0}
AllAreRead (w ∷ ws) = IsRead w.conv × AllAreRead ws

-- no argument has `&`
abbrev pub NoRefs : CoreArgs → Type 0
NoRefs NoArgs = Unit {0}
NoRefs (ValueArg x rest) = NoRefs rest
NoRefs (RefArg at root steps rest) = ⊥

has_mark : (tree : Core) (s : Scope) (place : Place) (c : Option Conv) → IsRead c → HasMark tree s place c
has_mark tree s place None r = tt
has_mark tree s place (Some c) r = inl r

no_refs : (tree : Core) (s : Scope) (wanted : List Wanted) (args : CoreArgs) → SameCount wanted args → AllAreRead wanted → ((place : Place) → MarkDiffers tree s place wanted args → ⊥) → NoRefs args
no_refs tree s [] NoArgs c r n = tt
no_refs tree s [] (ValueArg x rest) c r n = absurd c
no_refs tree s [] (RefArg at root steps rest) c r n = absurd c
no_refs tree s (w ∷ ws) NoArgs c r n = absurd c
no_refs tree s (w ∷ ws) (ValueArg x rest) c r n = no_refs tree s ws rest c r.1 (λ place v. n place (inr v))
no_refs tree s (w ∷ ws) (RefArg at root steps rest) c r n = n at (inl (has_mark tree s at w.conv r.0, refl))

-- the arguments are as many as are wanted, of their types, and without `&`
pub record ArgsFine (tree : Core) (s : Scope) (wanted : List Wanted) (args : CoreArgs) : Type 0 where
  pub t1 : (place : Place) → ArgMisfits tree s place wanted args → ⊥
  pub counts : SameCount wanted args
  pub plain : NoRefs args

pub args_fine : (tree : Core) (s : Scope) (sig : Signature) (wanted : List Wanted) (t : Known) (paren : Place) (args : CoreArgs) → sig ≡ Signed wanted t → AllAreRead wanted →
    ((place : Place) → CallMisfits tree s place sig args → ⊥) → (CountDiffers tree s paren sig args → ⊥) → ((place : Place) → CallT5 tree s place sig args → ⊥) → ArgsFine tree s wanted args
args_fine tree s sig wanted t paren args e r t1 t2 t5 =
    let c = same_count tree s paren wanted args (equal_numbers (count_of tree s paren args) (length wanted) (λ n. t2 (subst (λ g. CountDiffers tree s paren g args) (sym e) n))) in
    record {
      t1 = λ place v. t1 place (subst (λ g. CallMisfits tree s place g args) (sym e) v);
      counts = c;
      plain = no_refs tree s wanted args c r (λ place v. t5 place (subst (λ g. CallT5 tree s place g args) (sym e) v));
    }

-- each value is one of its argument
abbrev pub ArgsOf : Core → Scope → CoreArgs → List ValueTree → Type 0
ArgsOf tree s NoArgs [] = Unit {0}
ArgsOf tree s NoArgs (w ∷ ws) = ⊥
ArgsOf tree s (ValueArg x rest) [] = ⊥
ArgsOf tree s (ValueArg x rest) (w ∷ ws) = ValueOf tree (typing.type_of tree s.visible x) w × ArgsOf tree s rest ws
ArgsOf tree s (RefArg at root steps rest) ws = ⊥

pub parts_fit : (tree : Core) (s : Scope) (fields : List CoreField) (args : CoreArgs) (ws : List ValueTree) → ((place : Place) → ArgMisfits tree s place (map wanted_field fields) args → ⊥) → SameCount (map wanted_field fields) args → ArgsOf tree s args ws → FitAll tree (map type_of_field fields) (row ws)
parts_fit tree s [] NoArgs [] n c h = all_none
parts_fit tree s [] NoArgs (w ∷ ws) n c h = absurd h
parts_fit tree s [] (ValueArg x rest) ws n c h = absurd c
parts_fit tree s [] (RefArg at root steps rest) ws n c h = absurd c
parts_fit tree s (f ∷ fs) NoArgs ws n c h = absurd c
parts_fit tree s (f ∷ fs) (ValueArg x rest) [] n c h = absurd h
parts_fit tree s (f ∷ fs) (ValueArg x rest) (w ∷ ws) n c h =
    all_more (asked (meant f.ty) (typing.type_of tree s.visible x) w (λ m. n (expr_place x) (inl (refl, m))) h.0) (parts_fit tree s fs rest ws (λ place m. n place (inr m)) c h.1)
parts_fit tree s (f ∷ fs) (RefArg at root steps rest) ws n c h = absurd h

pub fields_read : (fields : List CoreField) → AllAreRead (map wanted_field fields)
fields_read [] = tt
fields_read (f ∷ fs) = (tt, fields_read fs)

pub params_read : (params : List CoreParam) → ((p : CoreParam) → Among params p → p.conv ≡ conv.Let) → AllAreRead (wanted_params (params_of params))
params_read [] h = tt
params_read (p ∷ ps) h = (h p (inl refl), params_read ps (λ q i. h q (inr i)))

-- ---- scopes and the numbers of locals

-- these locals are numbered from the edge on
pub record Sits (body : CoreBody) (edge : ℕ) (ls : List Local) : Type 0 where
  pub at : (i : ℕ) (l : Local) → slice_get ls i ≡ Some l → slice_get (locals_of body) (edge + i) ≡ Some l

pub sits_first : {body : CoreBody} {edge : ℕ} (ls ms : List Local) → Sits body edge (ls ++ ms) → Sits body edge ls
sits_first ls ms h = record { at = λ i l e. h.at i l (get_left ls ms i l e) }

pub sits_after : {body : CoreBody} {edge : ℕ} (ls ms : List Local) → Sits body edge (ls ++ ms) → Sits body (edge + length ls) ms
sits_after {body = body} {edge = edge} ls ms h = record {
  at = λ i l e.
      let n : edge + (length ls + i) ≡ edge + length ls + i = omega arith in
      subst (λ j. slice_get (locals_of body) j ≡ Some l) n (h.at (length ls + i) l (get_right ls ms i ∙ e));
}

pub first_at : {body : CoreBody} {edge : ℕ} (l : Local) (ls : List Local) → Sits body edge (l ∷ ls) → slice_get (locals_of body) edge ≡ Some l
first_at {body = body} {edge = edge} l ls h = let n : edge + 0 ≡ edge = omega arith in subst (λ j. slice_get (locals_of body) j ≡ Some l) n (h.at 0 l refl)

seen_wider : {body : CoreBody} {edge : ℕ} {l : Local} (n : ℕ) → Seen body edge l → Seen body (edge + n) l
seen_wider n h = record { number = h.number; within = omega (arith, h.within); at = h.at; ty = h.ty; typed = h.typed }

pub wider : {body : CoreBody} {edge : ℕ} {s : Scope} (n : ℕ) → Scoped body edge s → Scoped body (edge + n) s
wider n h = record { seen = λ l i. seen_wider n (h.seen l i); entry = h.entry; result = h.result }

-- one more local is visible
pub one_more : {body : CoreBody} {edge : ℕ} {s : Scope} (l : Local) (t : ValueType) → slice_get (locals_of body) edge ≡ Some l → value_by l.kind l.ty ≡ Some t → Scoped body edge s → Scoped body (edge + 1) (record { visible = l ∷ s.visible; result = s.result })
one_more {body = body} {edge = edge} {s = s} l t at typed h = record { seen = seen; entry = λ m i. inr (h.entry m i); result = h.result }
  where
    seen : (m : Local) → Among (l ∷ s.visible) m → Seen body (edge + 1) m
    seen m (inl e) = record { number = edge; within = omega arith; at = at ∙ ap Some e; ty = t; typed = subst (λ (k : Local). value_by k.kind k.ty ≡ Some t) e typed }
    seen m (inr i) = seen_wider 1 (h.seen m i)

-- what is visible at the beginning of a body
entry_seen : {tree : Core} (body : CoreBody) → Good tree body → (l : Local) → Among (entry_locals body) l → (t : ValueType) × (value_by l.kind l.ty ≡ Some t)
entry_seen body good l h = by (either_in body.captures (map param_local body.params) l h)
  where
    of_params : (ps : List CoreParam) → Among (map param_local ps) l → (t : ValueType) × (value_by l.kind l.ty ≡ Some t)
    of_params [] i = absurd i
    of_params (p ∷ ps) (inl e) = (meant p.ty, subst (λ (k : Local). value_by k.kind k.ty ≡ Some (meant p.ty)) e refl)
    of_params (p ∷ ps) (inr i) = of_params ps i

    by : Among body.captures l ⊎ Among (map param_local body.params) l → (t : ValueType) × (value_by l.kind l.ty ≡ Some t)
    by (inl i) = good.typed l i
    by (inr i) = of_params body.params i

pub entry_typed : {tree : Core} (body : CoreBody) → Good tree body → (l : Local) (t : ValueType) → Among (entry_locals body) l → l.ty ≡ Some t → value_by l.kind l.ty ≡ Some t
entry_typed body good l t i e =
    let r = entry_seen body good l i in
    let types : Some r.0 ≡ Some t = sym (value_typed l.kind l.ty r.0 r.1) ∙ e in
    let same : r.0 ≡ t = cc in
    r.1 ∙ ap Some same

pub at_entry : {tree : Core} (body : CoreBody) → Good tree body → Scoped body (length (entry_locals body)) (body_scope body)
at_entry body good = record {
  seen = λ l i.
      let r = Rattle.hv_law_safe.proofs.Lists.at_among (entry_locals body) l i in
      let t = entry_seen body good l i in
      record { number = r.0; within = slice_get_within (entry_locals body) r.0 l r.1; at = get_left (entry_locals body) (in_block body.block) r.0 l r.1; ty = t.0; typed = t.1 };
  entry = λ l i. i;
  result = refl;
}

pub block_sits : (body : CoreBody) → Sits body (length (entry_locals body)) (in_block body.block)
block_sits body = record { at = λ i l e. get_right (entry_locals body) (in_block body.block) i ∙ e }
