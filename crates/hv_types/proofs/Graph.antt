-- The users of structs, and what has functions in it.
use Rattle.std.proofs.Common.{◌≡◌, ◌⊎◌, inl, inr, ◌<◌, ◌+◌, ℕ, zero, suc, Bool, true, false, if◌then◌else◌, ◌||◌, List, [], ◌∷◌, length, refl, sym, ap, ◌∙◌, arith}
use Rattle.hv_types.specs.declared.fields.FieldType.{FieldType}
use Rattle.hv_types.specs.declared.fields.FieldBase.{FieldBase}
use Rattle.hv_types.specs.declared.fields.FieldBase.TheVariants as base
use Rattle.hv_types.specs.Table.{HoldsAt, at_once, through, row_at}
use Rattle.hv_types.specs.Holders as spec
use Rattle.hv_types.specs.Holders.{Reached, begins, follows, users_at}
use Rattle.hv_lemmas.proofs.Members.{Among, in_left, in_right, either_in, listed, contained}

-- each user that is listed is one by P
abbrev Right : (ℕ → ℕ → Type 0) → List (List ℕ) → Type 0
Right P users = (j x : ℕ) → Among (users_at users j) x → P j x

-- ---- one more user

one_more : (users : List (List ℕ)) (j i m x : ℕ) → Among (users_at (spec.with_user users j i) m) x → Among (users_at users m) x ⊎ ((m ≡ j) × (x ≡ i))
one_more [] j i m x h = inl h
one_more (us ∷ rest) zero i zero x h = by (either_in us (i ∷ []) x h)
  where
    by : Among us x ⊎ Among (i ∷ []) x → Among us x ⊎ ((◌≡◌ {A = ℕ} 0 0) × (x ≡ i))
    by (inl k) = inl k
    by (inr (inl e)) = inr (refl, sym e)
    by (inr (inr k)) = absurd k
one_more (us ∷ rest) zero i (suc m) x h = inl h
one_more (us ∷ rest) (suc j) i zero x h = inl h
one_more (us ∷ rest) (suc j) i (suc m) x h = by (one_more rest j i m x h)
  where
    by : Among (users_at rest m) x ⊎ ((m ≡ j) × (x ≡ i)) → Among (users_at rest m) x ⊎ ((suc m ≡ suc j) × (x ≡ i))
    by (inl k) = inl k
    by (inr (e, f)) = inr (ap suc e, f)

kept_user : (users : List (List ℕ)) (j i m x : ℕ) → Among (users_at users m) x → Among (users_at (spec.with_user users j i) m) x
kept_user [] j i m x h = h
kept_user (us ∷ rest) zero i zero x h = in_left us (i ∷ []) x h
kept_user (us ∷ rest) zero i (suc m) x h = h
kept_user (us ∷ rest) (suc j) i zero x h = h
kept_user (us ∷ rest) (suc j) i (suc m) x h = kept_user rest j i m x h

added_user : (users : List (List ℕ)) (j i : ℕ) → j < length users → Among (users_at (spec.with_user users j i) j) i
added_user [] j i h = absurd (omega (arith, h))
added_user (us ∷ rest) zero i h = in_right us (i ∷ []) i (inl refl)
added_user (us ∷ rest) (suc j) i h = added_user rest j i (omega (arith, h))

user_length : (users : List (List ℕ)) (j i : ℕ) → length (spec.with_user users j i) ≡ length users
user_length [] j i = refl
user_length (us ∷ rest) zero i = refl
user_length (us ∷ rest) (suc j) i = ap suc (user_length rest j i)

-- ---- a field

module _ (P : ℕ → ℕ → Type 0) where
  user_right : (users : List (List ℕ)) (j i : ℕ) → P j i → Right P users → Right P (spec.with_user users j i)
  user_right users j i p r m x h = by (one_more users j i m x h)
    where
      by : Among (users_at users m) x ⊎ ((m ≡ j) × (x ≡ i)) → P m x
      by (inl k) = r m x k
      by (inr (e, f)) = rw (e, f) p

  field_right : (users : List (List ℕ)) (i : ℕ) (b : FieldBase) → ((j : ℕ) → b ≡ base.Struct j → P j i) → Right P users → Right P (spec.with_field users i b)
  field_right users i base.Plain p r = r
  field_right users i base.Function p r = r
  field_right users i (base.Struct j) p r = user_right users j i (p j refl) r

  row_right : (users : List (List ℕ)) (i : ℕ) (row : List FieldType) → ((t : FieldType) (j : ℕ) → Among row t → t.base ≡ base.Struct j → P j i) → Right P users → Right P (spec.with_row users i row)
  row_right users i [] p r = r
  row_right users i (t ∷ ts) p r = row_right (spec.with_field users i t.base) i ts (λ u j h e. p u j (inr h) e) (field_right users i t.base (λ j e. p t j (inl refl) e) r)

  rows_right : (users : List (List ℕ)) (k : ℕ) (rows : List (List FieldType)) → ((l : ℕ) (t : FieldType) (j : ℕ) → Among (row_at rows l) t → t.base ≡ base.Struct j → P j (k + l)) → Right P users → Right P (spec.with_rows users k rows)
  rows_right users k [] p r = r
  rows_right users k (row ∷ rows) p r =
      rows_right (spec.with_row users k row) (suc k) rows (λ l t j h e. let f : k + suc l ≡ suc k + l = omega arith in rw (← f) (p (suc l) t j h e))
      (row_right users k row (λ t j h e. let f : k + 0 ≡ k = omega arith in rw (← f) (p 0 t j h e)) r)

field_kept : (users : List (List ℕ)) (i : ℕ) (b : FieldBase) (m x : ℕ) → Among (users_at users m) x → Among (users_at (spec.with_field users i b) m) x
field_kept users i base.Plain m x h = h
field_kept users i base.Function m x h = h
field_kept users i (base.Struct j) m x h = kept_user users j i m x h

field_length : (users : List (List ℕ)) (i : ℕ) (b : FieldBase) → length (spec.with_field users i b) ≡ length users
field_length users i base.Plain = refl
field_length users i base.Function = refl
field_length users i (base.Struct j) = user_length users j i

field_added : (users : List (List ℕ)) (i : ℕ) (b : FieldBase) (j : ℕ) → b ≡ base.Struct j → j < length users → Among (users_at (spec.with_field users i b) j) i
field_added users i b j e h = rw e (added_user users j i h)

-- ---- a row

row_kept : (users : List (List ℕ)) (i : ℕ) (row : List FieldType) (m x : ℕ) → Among (users_at users m) x → Among (users_at (spec.with_row users i row) m) x
row_kept users i [] m x h = h
row_kept users i (t ∷ ts) m x h = row_kept (spec.with_field users i t.base) i ts m x (field_kept users i t.base m x h)

row_length : (users : List (List ℕ)) (i : ℕ) (row : List FieldType) → length (spec.with_row users i row) ≡ length users
row_length users i [] = refl
row_length users i (t ∷ ts) = row_length (spec.with_field users i t.base) i ts ∙ field_length users i t.base

row_added : (users : List (List ℕ)) (i : ℕ) (row : List FieldType) (t : FieldType) (j : ℕ) → Among row t → t.base ≡ base.Struct j → j < length users → Among (users_at (spec.with_row users i row) j) i
row_added users i [] t j h e l = absurd h
row_added users i (u ∷ ts) t j (inl f) e l = row_kept (spec.with_field users i u.base) i ts j i (field_added users i u.base j (ap (λ (v : FieldType). v.base) f ∙ e) l)
row_added users i (u ∷ ts) t j (inr h) e l = row_added (spec.with_field users i u.base) i ts t j h e (let f = field_length users i u.base in omega (arith, f, l))

-- ---- all rows

rows_kept : (users : List (List ℕ)) (k : ℕ) (rows : List (List FieldType)) (m x : ℕ) → Among (users_at users m) x → Among (users_at (spec.with_rows users k rows) m) x
rows_kept users k [] m x h = h
rows_kept users k (row ∷ rows) m x h = rows_kept (spec.with_row users k row) (suc k) rows m x (row_kept users k row m x h)

rows_added : (users : List (List ℕ)) (k : ℕ) (rows : List (List FieldType)) (l : ℕ) (t : FieldType) (j : ℕ) → Among (row_at rows l) t → t.base ≡ base.Struct j → j < length users → Among (users_at (spec.with_rows users k rows) j) (k + l)
rows_added users k [] l t j h e m = absurd h
rows_added users k (row ∷ rows) zero t j h e m =
    let f : k + 0 ≡ k = omega arith in
    rw f (rows_kept (spec.with_row users k row) (suc k) rows j k (row_added users k row t j h e m))
rows_added users k (row ∷ rows) (suc l) t j h e m =
    let f : k + suc l ≡ suc k + l = omega arith in
    rw f (rows_added (spec.with_row users k row) (suc k) rows l t j h e (let g = row_length users k row in omega (arith, g, m)))

nobody_there : (rows : List (List FieldType)) (j x : ℕ) → Among (users_at (spec.nobody rows) j) x → ⊥
nobody_there [] j x h = h
nobody_there (row ∷ rows) zero x h = h
nobody_there (row ∷ rows) (suc j) x h = nobody_there rows j x h

nobody_length : (rows : List (List FieldType)) → length (spec.nobody rows) ≡ length rows
nobody_length [] = refl
nobody_length (row ∷ rows) = ap suc (nobody_length rows)

-- the struct with the number x has that with the number j as a field
abbrev Uses : List (List FieldType) → ℕ → ℕ → Type 0
Uses rows j x = (t : FieldType) × Among (row_at rows x) t × (t.base ≡ base.Struct j)

none_added : (l : ℕ) → 0 + l ≡ l
none_added l = omega arith

users_right : (rows : List (List FieldType)) → Right (Uses rows) (spec.users_of rows)
users_right rows = rows_right (Uses rows) (spec.nobody rows) 0 rows (λ l t j h e. rw (none_added l) (t, h, e)) (λ j x h. absurd (nobody_there rows j x h))

users_whole : (rows : List (List FieldType)) (j x : ℕ) → Uses rows j x → j < length rows → Among (users_at (spec.users_of rows) j) x
users_whole rows j x (t, h, e) l = rw (← none_added x) (rows_added (spec.nobody rows) 0 rows x t j h e (let f = nobody_length rows in omega (arith, f, l)))

-- ---- functions in fields

abbrev Direct : List FieldType → Type 0
Direct row = (t : FieldType) × Among row t × (t.base ≡ base.Function)

is_function : (b : FieldBase) → spec.is_function b ≡ true → b ≡ base.Function
is_function base.Plain e = cc
is_function base.Function e = refl
is_function (base.Struct j) e = cc

direct_by : (row : List FieldType) → spec.has_function row ≡ true → Direct row
direct_by [] e = cc
direct_by (t ∷ ts) e = by (spec.is_function t.base) refl e (direct_by ts)
  where
    by : (b : Bool) → spec.is_function t.base ≡ b → (b || spec.has_function ts) ≡ true → (spec.has_function ts ≡ true → Direct ts) → Direct (t ∷ ts)
    by true f g h = (t, inl refl, is_function t.base f)
    by false f g h = let d = h g in (d.0, inr d.1, d.2)

direct_to : (row : List FieldType) → Direct row → spec.has_function row ≡ true
direct_to [] (t, h, e) = absurd h
direct_to (u ∷ ts) (t, inl f, e) = ap (λ b. b || spec.has_function ts) (ap spec.is_function (ap (λ (v : FieldType). v.base) f ∙ e))
direct_to (u ∷ ts) (t, inr h, e) = ap (λ b. spec.is_function u.base || b) (direct_to ts (t, h, e)) ∙ or_true (spec.is_function u.base)
  where
    or_true : (b : Bool) → (b || true) ≡ true
    or_true true = refl
    or_true false = refl

direct_right : (k : ℕ) (rows : List (List FieldType)) (x : ℕ) → Among (spec.direct_from k rows) x → (l : ℕ) × (x ≡ k + l) × Direct (row_at rows l)
direct_right k [] x h = absurd h
direct_right k (row ∷ rows) x h = by (spec.has_function row) refl (either_in (if spec.has_function row then k ∷ [] else []) (spec.direct_from (suc k) rows) x h) (direct_right (suc k) rows x)
  where
    later : (l : ℕ) × (x ≡ suc k + l) × Direct (row_at rows l) → (l : ℕ) × (x ≡ k + l) × Direct (row_at (row ∷ rows) l)
    later (l, e, d) = (suc l, omega (arith, e), d)

    by : (b : Bool) → spec.has_function row ≡ b → Among (if b then k ∷ [] else []) x ⊎ Among (spec.direct_from (suc k) rows) x →
        (Among (spec.direct_from (suc k) rows) x → (l : ℕ) × (x ≡ suc k + l) × Direct (row_at rows l)) → (l : ℕ) × (x ≡ k + l) × Direct (row_at (row ∷ rows) l)
    by b e (inr i) f = later (f i)
    by true e (inl (inl g)) f = (0, omega (arith, g), direct_by row e)
    by true e (inl (inr i)) f = absurd i
    by false e (inl i) f = absurd i

direct_whole : (k : ℕ) (rows : List (List FieldType)) (l : ℕ) → Direct (row_at rows l) → Among (spec.direct_from k rows) (k + l)
direct_whole k [] l (t, h, e) = absurd h
direct_whole k (row ∷ rows) zero d =
    let f : k + 0 ≡ k = omega arith in
    rw f (in_left (if spec.has_function row then k ∷ [] else []) (spec.direct_from (suc k) rows) k (rw (direct_to row d) (inl refl)))
direct_whole k (row ∷ rows) (suc l) d =
    let f : k + suc l ≡ suc k + l = omega arith in
    rw f (in_right (if spec.has_function row then k ∷ [] else []) (spec.direct_from (suc k) rows) (suc k + l) (direct_whole (suc k) rows l d))

-- ---- both

in_rows : (rows : List (List FieldType)) (j : ℕ) (t : FieldType) → Among (row_at rows j) t → j < length rows
in_rows [] j t h = absurd h
in_rows (row ∷ rows) zero t h = omega arith
in_rows (row ∷ rows) (suc j) t h = omega (arith, in_rows rows j t h)

holds_within : (rows : List (List FieldType)) (j : ℕ) → HoldsAt rows j → j < length rows
holds_within rows j (at_once i t c e) = in_rows rows i t (listed (row_at rows i) t c)
holds_within rows j (through i t k c e h) = in_rows rows i t (listed (row_at rows i) t c)

module _ (rows : List (List FieldType)) where
  reached_holds : (i : ℕ) → Reached (spec.users_of rows) (spec.direct_from 0 rows) i → HoldsAt rows i
  reached_holds i (begins x c) = by (direct_right 0 rows x (listed (spec.direct_from 0 rows) x c))
    where
      by : (l : ℕ) × (x ≡ 0 + l) × Direct (row_at rows l) → HoldsAt rows x
      by (l, e, (t, h, f)) = let g : x ≡ l = omega (arith, e) in rw g (at_once l t (contained (row_at rows l) t h) f)
  reached_holds i (follows j x r c) = by (users_right rows j x (listed (users_at (spec.users_of rows) j) x c)) (reached_holds j r)
    where
      by : Uses rows j x → HoldsAt rows j → HoldsAt rows x
      by (t, h, e) k = through x t j (contained (row_at rows x) t h) e k

  holds_reached : (i : ℕ) → HoldsAt rows i → Reached (spec.users_of rows) (spec.direct_from 0 rows) i
  holds_reached i (at_once x t c e) = begins x (contained (spec.direct_from 0 rows) x (rw (← none_added x) (direct_whole 0 rows x (t, listed (row_at rows x) t c, e))))
  holds_reached i (through x t j c e h) =
      follows j x (holds_reached j h) (contained (users_at (spec.users_of rows) j) x (users_whole rows j x (t, listed (row_at rows x) t c, e) (holds_within rows j h)))

  -- what is reached is what has functions in it
  pub holders : (found : List ℕ) → spec.IsReached (spec.users_of rows) (spec.direct_from 0 rows) found → spec.AreHolders rows found
  holders found r i = (λ c. reached_holds i ((r i).0 c), λ h. (r i).1 (holds_reached i h))

-- the same by what code has
pub holders_found : (rows : List (List FieldType)) (users : List (List ℕ)) (first found : List ℕ) → users ≡ spec.users_of rows → first ≡ spec.direct_from 0 rows → spec.IsReached users first found → spec.AreHolders rows found
holders_found rows users first found e f r = holders rows found (let g : spec.IsReached (spec.users_of rows) (spec.direct_from 0 rows) found = rw (← e, ← f) r in g)
