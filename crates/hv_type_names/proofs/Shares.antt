-- Locals that share their names with declarations.
use Rattle.std.proofs.Common.{◌≡◌, inl, inr, ◌+◌, ◌<◌, ◌≤◌, ℕ, suc, Bool, true, false, if◌then◌else◌, List, [], ◌∷◌, ◌++◌, map, length, Option, Some, slice_get, refl, sym, ap, ◌∙◌, arith}
use Rattle.std.specs.Str.{bytes_eq}
use Rattle.std.specs.Cmp.Lexicographic.{bytes_decides}
use Rattle.hv_tree.specs.declared.types.Name.{Name}
use Rattle.hv_symbols.specs.Texts.{index_from, index_of}
use Rattle.hv_type_names.specs.Found as spec
use Rattle.hv_lemmas.proofs.Members.{Among, in_right}
use Rattle.hv_type_names.proofs.Repeated.{Has}

-- ---- the first name with a text

-- the name at a place of the list, counted from n
pub record Stands (n : ℕ) (names : List Name) (text : List ℕ) (k : ℕ) : Type 0 where
  pub before : List Name
  pub name : Name
  pub after : List Name
  pub is : names ≡ before ++ name ∷ after
  pub at : k ≡ n + length before
  pub same : name.text ≡ text

stands_by : (b : Bool) (n : ℕ) (m : Name) (ms : List Name) (text : List ℕ) (k : ℕ) → bytes_eq text m.text ≡ b → (index_from (suc n) (spec.texts_of ms) text ≡ Some k → Stands (suc n) ms text k) →
    (if b then Some n else index_from (suc n) (spec.texts_of ms) text) ≡ Some k → Stands n (m ∷ ms) text k
stands_by true n m ms text k e f h = record { before = []; name = m; after = ms; is = refl; at = let g : n ≡ k = cc in omega (arith, g); same = sym ((bytes_decides text m.text).0 e) }
stands_by false n m ms text k e f h = let s = f h in record { before = m ∷ s.before; name = s.name; after = s.after; is = ap (λ l. m ∷ l) s.is; at = s.at ∙ omega arith; same = s.same }

stands_from : (n : ℕ) (names : List Name) (text : List ℕ) (k : ℕ) → index_from n (spec.texts_of names) text ≡ Some k → Stands n names text k
stands_from n [] text k h = cc
stands_from n (m ∷ ms) text k h = stands_by (bytes_eq text m.text) n m ms text k refl (stands_from (suc n) ms text k) h

pub stands : (names : List Name) (text : List ℕ) (k : ℕ) → index_of (spec.texts_of names) text ≡ Some k → Stands 0 names text k
unfolding index_of
stands names text k h = stands_from 0 names text k h

if_false : {A : Type 0} (b : Bool) (x y : A) → (b ≡ true → ⊥) → (if b then x else y) ≡ y
if_false true x y f = absurd (f refl)
if_false false x y f = refl

if_true : {A : Type 0} (b : Bool) (x y : A) → b ≡ true → (if b then x else y) ≡ x
if_true true x y f = refl
if_true false x y f = cc

first_from : (n : ℕ) (before : List Name) (name : Name) (after : List Name) (text : List ℕ) → name.text ≡ text → (Has (spec.texts_of before) text → ⊥) → index_from n (spec.texts_of (before ++ name ∷ after)) text ≡ Some (n + length before)
first_from n [] name after text e f = if_true (bytes_eq text name.text) (Some n) (index_from (suc n) (spec.texts_of after) text) ((bytes_decides text name.text).1 (sym e)) ∙ ap Some (omega arith)
first_from n (m ∷ before) name after text e f =
    if_false (bytes_eq text m.text) (Some n) (index_from (suc n) (spec.texts_of (before ++ name ∷ after)) text) (λ g. f (inl (sym ((bytes_decides text m.text).0 g))))
    ∙ first_from (suc n) before name after text e (λ h. f (inr h))
    ∙ ap Some (omega arith)

-- where none before has the text
pub first_at : (before : List Name) (name : Name) (after : List Name) (text : List ℕ) → name.text ≡ text → (Has (spec.texts_of before) text → ⊥) → index_of (spec.texts_of (before ++ name ∷ after)) text ≡ Some (length before)
unfolding index_of
first_at before name after text e f = first_from 0 before name after text e f ∙ ap Some (omega arith)

-- a place within the first names
pub record Within (found : Option ℕ) (n : ℕ) : Type 0 where
  pub at : ℕ
  pub is : found ≡ Some at
  pub less : at < n

within_by : (b : Bool) (n m : ℕ) (o : Option ℕ) → n < m → (b ≡ false → Within o m) → Within (if b then Some n else o) m
within_by true n m o h f = record { at = n; is = refl; less = h }
within_by false n m o h f = f refl

within_from : (n : ℕ) (before after : List Name) (text : List ℕ) → Has (spec.texts_of before) text → Within (index_from n (spec.texts_of (before ++ after)) text) (n + length before)
within_from n [] after text h = absurd h
within_from n (m ∷ before) after text (inl e) =
    record { at = n; is = if_true (bytes_eq text m.text) (Some n) (index_from (suc n) (spec.texts_of (before ++ after)) text) ((bytes_decides text m.text).1 (sym e)); less = omega arith }
within_from n (m ∷ before) after text (inr h) =
    let w = within_from (suc n) before after text h in
    within_by (bytes_eq text m.text) n (n + suc (length before)) (index_from (suc n) (spec.texts_of (before ++ after)) text) (omega arith) (λ e. record { at = w.at; is = w.is; less = omega (arith, w.less) })

-- where one of the first names has the text
pub within : (before after : List Name) (text : List ℕ) → Has (spec.texts_of before) text → Within (index_of (spec.texts_of (before ++ after)) text) (length before)
unfolding index_of
within before after text h = let w = within_from 0 before after text h in record { at = w.at; is = w.is; less = omega (arith, w.less) }

-- ---- places of names

pub place_at : (before : List Name) (name : Name) (after : List Name) → slice_get (map spec.place_of (before ++ name ∷ after)) (length before) ≡ Some name.place
place_at [] name after = refl
place_at (m ∷ before) name after = place_at before name after

-- a name at a place of two lists, one after the other
pub low_or_high : (a : List Name) (x : Name) (b before : List Name) (m : Name) (after : List Name) → a ++ x ∷ b ≡ before ++ m ∷ after → (length before ≤ length a → Among (a ++ x ∷ []) m) × (length a < length before → Among b m)
low_or_high [] x b [] m after e = (λ h. inl (let f : x ≡ m = cc in f), λ h. absurd (omega (arith, h)))
low_or_high [] x b (q ∷ before) m after e = (λ h. absurd (omega (arith, h)), λ h. let f : b ≡ before ++ m ∷ after = cc in rw f (in_right before (m ∷ after) m (inl refl)))
low_or_high (y ∷ a) x b [] m after e = (λ h. inl (let f : y ≡ m = cc in f), λ h. absurd (omega (arith, h)))
low_or_high (y ∷ a) x b (q ∷ before) m after e =
    let f : a ++ x ∷ b ≡ before ++ m ∷ after = cc in
    let g = low_or_high a x b before m after f in
    (λ h. inr (g.0 (omega (arith, h))), λ h. g.1 (omega (arith, h)))
