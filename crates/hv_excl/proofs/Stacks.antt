-- The open accesses as the code has them, the newest last.
use Rattle.std.proofs.Common.{◌≡◌, ℕ, Bool, true, false, ◌&&◌, ◌||◌, if◌then◌else◌, nat_lt, max, List, [], ◌∷◌, ◌++◌, map, reverse, Option, Some, None, refl, sym, ap, subst, ◌∙◌, append_assoc, ◌<◌, arith}
use Rattle.std.proofs.lemmas.Bool.{ltb-true, lt-ltb}
use Rattle.std.proofs.lemmas.List.{reverse-append, map-append}
use Rattle.hv_decls.specs.declared.path.StaticPath.{StaticPath}
use Rattle.hv_rules.specs.States.{Access, stays, without_bindings}
use Rattle.hv_excl.specs.declared.access.OpenAccess.{OpenAccess}
use Rattle.hv_excl.specs.declared.access.Entry.{Entry}
use Rattle.hv_excl.specs.Access.{access_by, entry_by, accesses_by, higher, highest, Told}
use Rattle.hv_excl.specs.Clashes.{overlaps, counts, clashes}

pub newest_last : (all : List Entry) (e : Entry) → accesses_by (all ++ e ∷ []) ≡ entry_by e ∷ accesses_by all
newest_last all e = ap (map entry_by) (reverse-append all (e ∷ []))

-- ---- the highest local

-- with one entry more
pub told_more : (top : Option ℕ) (all : List Entry) (e : Entry) → e.below ≡ top → Told top (reverse all) → Told (higher e.access.binding e.below) (reverse (all ++ e ∷ []))
told_more top all e same h = subst (λ (es : List Entry). Told (higher e.access.binding e.below) es) (sym (reverse-append all (e ∷ []))) (refl, subst (λ (o : Option ℕ). Told o (reverse all)) (sym same) h)

-- and without it
pub told_less : (top : Option ℕ) (all : List Entry) (e : Entry) → Told top (reverse (all ++ e ∷ [])) → Told e.below (reverse all)
told_less top all e h = (subst (λ (es : List Entry). Told top es) (reverse-append all (e ∷ [])) h).1

pub told_highest : (top : Option ℕ) (es : List Entry) → Told top es → top ≡ highest (map entry_by es)
told_highest top [] h = h
told_highest top (e ∷ es) h = h.0 ∙ ap (higher e.access.binding) (told_highest e.below es h.1)

max_below : (n m k : ℕ) → nat_lt (max m k) n ≡ true → (nat_lt m n ≡ true) × (nat_lt k n ≡ true)
max_below n m k e = let l : max m k < n = ltb-true (max m k) n e in (lt-ltb m n (omega arith), lt-ltb k n (omega arith))

stays_both : (n : ℕ) (a b : Option ℕ) → stays n (higher a b) ≡ true → (stays n a ≡ true) × (stays n b ≡ true)
stays_both n None b e = (refl, e)
stays_both n (Some m) None e = (e, refl)
stays_both n (Some m) (Some k) e = max_below n m k e

-- where the highest local stays, all do
pub all_stay : (n : ℕ) (xs : List Access) → stays n (highest xs) ≡ true → without_bindings n xs ≡ xs
all_stay n [] e = refl
all_stay n (a ∷ xs) e = let s = stays_both n a.binding (highest xs) e in ap (λ (b : Bool). if b then a ∷ without_bindings n xs else without_bindings n xs) s.0 ∙ ap (λ (ys : List Access). a ∷ ys) (all_stay n xs s.1)

-- ---- the end of locals

-- the newest is kept
pub keep : (n : ℕ) (kept : List OpenAccess) (a : OpenAccess) (xs : List Access) → stays n a.binding ≡ true → map access_by (kept ++ a ∷ []) ++ without_bindings n xs ≡ map access_by kept ++ without_bindings n (access_by a ∷ xs)
keep n kept a xs e =
    ap (λ (ys : List Access). ys ++ without_bindings n xs) (map-append access_by kept (a ∷ []))
    ∙ append_assoc (map access_by kept) (access_by a ∷ []) (without_bindings n xs)
    ∙ ap (λ (b : Bool). map access_by kept ++ (if b then access_by a ∷ without_bindings n xs else without_bindings n xs)) (sym e)

-- or ends
pub leave : (n : ℕ) (kept : List OpenAccess) (a : OpenAccess) (xs : List Access) → stays n a.binding ≡ false → map access_by kept ++ without_bindings n xs ≡ map access_by kept ++ without_bindings n (access_by a ∷ xs)
leave n kept a xs e = ap (λ (b : Bool). map access_by kept ++ (if b then access_by a ∷ without_bindings n xs else without_bindings n xs)) (sym e)

-- the last one is opened again
pub again : (kept : List OpenAccess) (a : OpenAccess) (xs : List Access) → map access_by kept ++ access_by a ∷ xs ≡ map access_by (kept ++ a ∷ []) ++ xs
again kept a xs = sym (ap (λ (ys : List Access). ys ++ xs) (map-append access_by kept (a ∷ [])) ∙ append_assoc (map access_by kept) (access_by a ∷ []) xs)

-- ---- clashes

or_none : (p : Bool) → (p || false) ≡ p
or_none true = refl
or_none false = refl

or_turned : (p q : Bool) → (p || q) ≡ (q || p)
or_turned true true = refl
or_turned true false = refl
or_turned false true = refl
or_turned false false = refl

or_assoc : (p q r : Bool) → ((p || q) || r) ≡ (p || (q || r))
or_assoc true q r = refl
or_assoc false q r = refl

clash_both : (reading : Bool) (p : StaticPath) (xs ys : List Access) → clashes reading p (xs ++ ys) ≡ (clashes reading p xs || clashes reading p ys)
clash_both reading p [] ys = refl
clash_both reading p (a ∷ xs) ys =
    ap (λ (b : Bool). (counts reading a.mode && overlaps p a.path) || b) (clash_both reading p xs ys)
    ∙ sym (or_assoc (counts reading a.mode && overlaps p a.path) (clashes reading p xs) (clashes reading p ys))

-- in whatever order
pub clash_reversed : (reading : Bool) (p : StaticPath) (all : List Entry) → clashes reading p (accesses_by all) ≡ clashes reading p (map entry_by all)
clash_reversed reading p [] = refl
clash_reversed reading p (e ∷ all) =
    let here = counts reading (entry_by e).mode && overlaps p (entry_by e).path in
    ap (clashes reading p) (ap (map entry_by) (reverse-append (e ∷ []) all) ∙ map-append entry_by (reverse all) (e ∷ []))
    ∙ (clash_both reading p (accesses_by all) (entry_by e ∷ []) ∙ (ap (λ (b : Bool). b || (here || false)) (clash_reversed reading p all) ∙ (or_turned (clashes reading p (map entry_by all)) (here || false) ∙ ap (λ (b : Bool). b || clashes reading p (map entry_by all)) (or_none here))))
