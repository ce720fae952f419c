-- The texts that a walk has seen are those of the visible locals.
use Rattle.std.proofs.Common.{◌≡◌, ◌⊎◌, inl, inr, ℕ, Bool, true, false, if◌then◌else◌, List, [], ◌∷◌, ◌++◌, map, Option, Some, is_some, refl, sym, ap, ◌∙◌}
use Rattle.std.specs.Str.{bytes_eq}
use Rattle.std.specs.Cmp.Lexicographic.{bytes_decides}
use Rattle.hv_tree.specs.declared.types.Name.{Name}
use Rattle.hv_tree.specs.Core.{CoreParam, CoreBlock, CoreStmt, Var, VarWith, Let, Inout, Assign, If, While, Return, ReturnWith, Print, Task, AwaitsAlone, CallsAlone, Bare, CoreTy}
use Rattle.hv_decls.specs.Locals.{Local, local_in, param_local}
use Rattle.hv_decls.specs.Sites.{Scope, scope_behind, capture_local, lambda_body, body_scope}
use Rattle.hv_type_rules.specs.Names.{local_name}
use Rattle.hv_symbols.specs.Texts.{has}
use Rattle.hv_type_names.specs.Found as spec
use Rattle.hv_type_names.proofs.Repeated.{Has, is_there, there_is, has_either, has_left, has_right}
use Rattle.hv_type_names.proofs.Walked.{sees, Agree}

-- the texts of locals
abbrev pub local_texts : List Local → List (List ℕ)
local_texts locals = spec.texts_of (map local_name locals)

seen_by : (b : Bool) (l : Local) (ls : List Local) (text : List ℕ) → bytes_eq l.name.text text ≡ b → (is_some (local_in ls text) ≡ true → Has (local_texts ls) text) →
    is_some (if b then Some l else local_in ls text) ≡ true → Has (local_texts (l ∷ ls)) text
seen_by true l ls text e f h = inl ((bytes_decides l.name.text text).0 e)
seen_by false l ls text e f h = inr (f h)

pub seen_has : (ls : List Local) (text : List ℕ) → sees ls text ≡ true → Has (local_texts ls) text
seen_has [] text h = cc
seen_has (l ∷ ls) text h = seen_by (bytes_eq l.name.text text) l ls text refl (seen_has ls text) h

some_if : (b : Bool) (l : Local) (o : Option Local) → (b ≡ false → is_some o ≡ true) → is_some (if b then Some l else o) ≡ true
some_if true l o f = refl
some_if false l o f = f refl

pub has_seen : (ls : List Local) (text : List ℕ) → Has (local_texts ls) text → sees ls text ≡ true
has_seen [] text h = absurd h
has_seen (l ∷ ls) text (inl e) = some_if (bytes_eq l.name.text text) l (local_in ls text) (λ f. let g : true ≡ false = sym ((bytes_decides l.name.text text).1 e) ∙ f in cc)
has_seen (l ∷ ls) text (inr h) = some_if (bytes_eq l.name.text text) l (local_in ls text) (λ f. has_seen ls text h)

same_truth : (a b : Bool) → (a ≡ true → b ≡ true) → (b ≡ true → a ≡ true) → a ≡ b
same_truth true b f g = sym (f refl)
same_truth false true f g = g refl
same_truth false false f g = refl

-- lists with the same texts agree
pub agree_of : (seen : List (List ℕ)) (ls : List Local) → ((text : List ℕ) → Has seen text → Has (local_texts ls) text) → ((text : List ℕ) → Has (local_texts ls) text → Has seen text) → Agree seen ls
agree_of seen ls f g text = same_truth (has seen text) (sees ls text) (λ h. has_seen ls text (f text (is_there seen text h))) (λ h. there_is seen text (g text (seen_has ls text h)))

to_left : (seen : List (List ℕ)) (ls : List Local) → Agree seen ls → (text : List ℕ) → Has seen text → Has (local_texts ls) text
to_left seen ls g text h = seen_has ls text (sym (g text) ∙ there_is seen text h)

to_right : (seen : List (List ℕ)) (ls : List Local) → Agree seen ls → (text : List ℕ) → Has (local_texts ls) text → Has seen text
to_right seen ls g text h = is_there seen text (g text ∙ has_seen ls text h)

-- a local more
more : (seen : List (List ℕ)) (ls : List Local) (l : Local) → Agree seen ls → Agree (seen ++ l.name.text ∷ []) (l ∷ ls)
more seen ls l g = agree_of (seen ++ l.name.text ∷ []) (l ∷ ls) (λ text h. forth text (has_either seen (l.name.text ∷ []) text h)) (λ text h. back text h)
  where
    forth : (text : List ℕ) → Has seen text ⊎ Has (l.name.text ∷ []) text → Has (local_texts (l ∷ ls)) text
    forth text (inl h) = inr (to_left seen ls g text h)
    forth text (inr (inl e)) = inl e
    forth text (inr (inr h)) = absurd h

    back : (text : List ℕ) → Has (local_texts (l ∷ ls)) text → Has (seen ++ l.name.text ∷ []) text
    back text (inl e) = has_right seen (l.name.text ∷ []) text (inl e)
    back text (inr h) = has_left seen (l.name.text ∷ []) text (to_right seen ls g text h)

-- behind a statement
pub agree_behind : (x : CoreStmt) (seen : List (List ℕ)) (s : Scope) → Agree seen s.visible → Agree (spec.behind seen (spec.bound x)) (scope_behind x s).visible
agree_behind (Var at name t) seen s g = more seen s.visible _ g
agree_behind (VarWith at name t x) seen s g = more seen s.visible _ g
agree_behind (Let at name t x) seen s g = more seen s.visible _ g
agree_behind (Inout at name t root steps) seen s g = more seen s.visible _ g
agree_behind (Assign at root steps x) seen s g = g
agree_behind (If at branches) seen s g = g
agree_behind (While at test body) seen s g = g
agree_behind (Return at) seen s g = g
agree_behind (ReturnWith at x) seen s g = g
agree_behind (Print at x) seen s g = g
agree_behind (Task at name t spawn budget call) seen s g = more seen s.visible _ g
agree_behind (AwaitsAlone at name) seen s g = g
agree_behind (CallsAlone at call) seen s g = g
agree_behind (Bare at block) seen s g = g

captured_texts : (visible : List Local) (captures : List Name) → map local_name (map (capture_local visible) captures) ≡ captures
captured_texts visible [] = refl
captured_texts visible (n ∷ ns) = ap (λ l. n ∷ l) (captured_texts visible ns)

param_texts : (params : List CoreParam) → map local_name (map param_local params) ≡ map spec.param_name params
param_texts [] = refl
param_texts (x ∷ xs) = ap (λ l. x.name ∷ l) (param_texts xs)

names_append : (a b : List Local) → map local_name (a ++ b) ≡ map local_name a ++ map local_name b
names_append [] b = refl
names_append (l ∷ a) b = ap (λ k. l.name ∷ k) (names_append a b)

texts_append : (a b : List Name) → spec.texts_of (a ++ b) ≡ spec.texts_of a ++ spec.texts_of b
texts_append [] b = refl
texts_append (n ∷ a) b = ap (λ k. n.text ∷ k) (texts_append a b)

-- the names that the entry of a lambda's body declares
pub entry_names : (visible : List Local) (captures : List Name) (params : List CoreParam) → map local_name (map (capture_local visible) captures ++ map param_local params) ≡ captures ++ map spec.param_name params
entry_names visible captures params =
    names_append (map (capture_local visible) captures) (map param_local params)
    ∙ ap (λ l. l ++ map local_name (map param_local params)) (captured_texts visible captures)
    ∙ ap (λ l. captures ++ l) (param_texts params)

-- at the beginning of a lambda's body
pub agree_entry : (s : Scope) (captures : List Name) (params : List CoreParam) (result : Option CoreTy) (block : CoreBlock) →
    Agree (spec.texts_of captures ++ spec.texts_of (map spec.param_name params)) (body_scope (lambda_body s captures params result block)).visible
agree_entry s captures params result block =
    let same : local_texts (map (capture_local s.visible) captures ++ map param_local params) ≡ spec.texts_of captures ++ spec.texts_of (map spec.param_name params) =
    ap spec.texts_of (entry_names s.visible captures params) ∙ texts_append captures (map spec.param_name params)
    in
    agree_of (spec.texts_of captures ++ spec.texts_of (map spec.param_name params)) (map (capture_local s.visible) captures ++ map param_local params) (λ text h. rw same h) (λ text h. rw (← same) h)
