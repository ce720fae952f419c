-- What is found from field to struct is exactly what has functions in it.
use Rattle.std.proofs.Common.{◌≡◌, ◌≢◌, ◌⊎◌, inl, inr, ◌≤◌, ◌<◌, ◌+◌, ℕ, zero, suc, true, false, List, [], ◌∷◌, ◌++◌, length, Some, None, refl, sym, ap, ◌∙◌, arith}
use Rattle.std.specs.List.{slice_get, slice_set}
use Rattle.std.proofs.lemmas.Option.{slice_get_within, get_or_from_slice_get}
use Rattle.hv_types.specs.Holders as spec
use Rattle.hv_types.specs.Holders.{Reached, begins, follows, users_at}
use Rattle.hv_lemmas.proofs.Members.{Among, in_left, in_right, either_in, listed, contained}

-- ---- lists of users as code changes them

pub user_set : (users : List (List ℕ)) (j i : ℕ) (old none : List ℕ) → slice_get users j ≡ Some old → slice_set (slice_set users j none) j (old ++ i ∷ []) ≡ spec.with_user users j i
user_set [] j i old none e = cc
user_set (us ∷ rest) zero i old none e = let f : us ≡ old = cc in rw f refl
user_set (us ∷ rest) (suc j) i old none e = ap (λ l. us ∷ l) (user_set rest j i old none e)

pub user_past : (users : List (List ℕ)) (j i : ℕ) → length users ≤ j → users ≡ spec.with_user users j i
user_past [] j i h = refl
user_past (us ∷ rest) zero i h = absurd (omega (arith, h))
user_past (us ∷ rest) (suc j) i h = ap (λ l. us ∷ l) (user_past rest j i (omega (arith, h)))

pub taken_set : (users : List (List ℕ)) (j : ℕ) → slice_set users j [] ≡ spec.without users j
taken_set [] j = refl
taken_set (us ∷ rest) zero = refl
taken_set (us ∷ rest) (suc j) = ap (λ l. us ∷ l) (taken_set rest j)

pub taken_past : (users : List (List ℕ)) (j : ℕ) → length users ≤ j → users ≡ spec.without users j
taken_past [] j h = refl
taken_past (us ∷ rest) zero h = absurd (omega (arith, h))
taken_past (us ∷ rest) (suc j) h = ap (λ l. us ∷ l) (taken_past rest j (omega (arith, h)))

pub got : (users : List (List ℕ)) (j : ℕ) (old : List ℕ) → slice_get users j ≡ Some old → old ≡ users_at users j
got users j old e = sym (get_or_from_slice_get users j old [] e)

pub got_past : (users : List (List ℕ)) (j : ℕ) → length users ≤ j → users_at users j ≡ []
got_past [] j h = refl
got_past (us ∷ rest) zero h = absurd (omega (arith, h))
got_past (us ∷ rest) (suc j) h = got_past rest j (omega (arith, h))

-- ---- users that are taken away

still : (users : List (List ℕ)) (n j x : ℕ) → Among (users_at (spec.without users n) j) x → Among (users_at users j) x
still [] n j x h = h
still (us ∷ rest) zero zero x h = absurd h
still (us ∷ rest) zero (suc j) x h = h
still (us ∷ rest) (suc n) zero x h = h
still (us ∷ rest) (suc n) (suc j) x h = still rest n j x h

or_taken : (users : List (List ℕ)) (n j x : ℕ) → Among (users_at users j) x → Among (users_at (spec.without users n) j) x ⊎ Among (users_at users n) x
or_taken [] n j x h = inl h
or_taken (us ∷ rest) zero zero x h = inr h
or_taken (us ∷ rest) zero (suc j) x h = inl h
or_taken (us ∷ rest) (suc n) zero x h = inl h
or_taken (us ∷ rest) (suc n) (suc j) x h = or_taken rest n j x h

-- ---- how far it is found

-- what is found, the users that are left, and how many of what is found are done
pub record Spread (users : List (List ℕ)) (first found : List ℕ) (left : List (List ℕ)) (done : ℕ) : Type 0 where
  pub begun : (x : ℕ) → Among first x → Among found x
  pub sound : (x : ℕ) → Among found x → Reached users first x
  pub kept : (j x : ℕ) → Among (users_at left j) x → Among (users_at users j) x
  pub taken : (j x : ℕ) → Among (users_at users j) x → Among (users_at left j) x ⊎ Among found x
  pub whole : (k j x : ℕ) → k < done → slice_get found k ≡ Some j → Among (users_at users j) x → Among found x

pub at_first : (users : List (List ℕ)) (first : List ℕ) → Spread users first first users 0
at_first users first = record {
  begun = λ x h. h;
  sound = λ x h. begins x (contained first x h);
  kept = λ j x h. h;
  taken = λ j x h. inl h;
  whole = λ k j x l e h. absurd (omega (arith, l));
}

front_same : (xs ys : List ℕ) (k : ℕ) → k < length xs → slice_get (xs ++ ys) k ≡ slice_get xs k
front_same [] ys k h = absurd (omega (arith, h))
front_same (x ∷ xs) ys zero h = refl
front_same (x ∷ xs) ys (suc k) h = front_same xs ys k (omega (arith, h))

at_place : (xs : List ℕ) (k x : ℕ) → slice_get xs k ≡ Some x → Among xs x
at_place [] k x e = cc
at_place (y ∷ xs) zero x e = let f : y ≡ x = cc in inl f
at_place (y ∷ xs) (suc k) x e = inr (at_place xs k x e)

module _ (users : List (List ℕ)) (first found : List ℕ) (left : List (List ℕ)) (done number : ℕ) where
  pub turn : Spread users first found left done → slice_get found done ≡ Some number → Spread users first (found ++ users_at left number) (spec.without left number) (suc done)
  turn s e = record {
    begun = λ x h. in_left found more x (s.begun x h);
    sound = λ x h. by_sound x (either_in found more x h);
    kept = λ j x h. s.kept j x (still left number j x h);
    taken = λ j x h. by_taken j x (s.taken j x h);
    whole = λ k j x l f h. by_whole k j x f h (earlier k l);
  }
    where
      more : List ℕ
      more = users_at left number

      by_sound : (x : ℕ) → Among found x ⊎ Among (users_at left number) x → Reached users first x
      by_sound x (inl h) = s.sound x h
      by_sound x (inr h) = follows number x (s.sound number (at_place found done number e)) (contained (users_at users number) x (s.kept number x h))

      by_taken : (j x : ℕ) → Among (users_at left j) x ⊎ Among found x → Among (users_at (spec.without left number) j) x ⊎ Among (found ++ users_at left number) x
      by_taken j x (inr h) = inr (in_left found (users_at left number) x h)
      by_taken j x (inl h) = which (or_taken left number j x h)
        where
          which : Among (users_at (spec.without left number) j) x ⊎ Among (users_at left number) x → Among (users_at (spec.without left number) j) x ⊎ Among (found ++ users_at left number) x
          which (inl h) = inl h
          which (inr h) = inr (in_right found (users_at left number) x h)

      within : done < length found
      within = slice_get_within found done number e

      earlier : (k : ℕ) → k < suc done → (k < done) ⊎ (k ≡ done)
      earlier k l = split (Rattle.std.proofs.lemmas.Bool.Decides.eqb_tells k done)
        where
          split : ((Rattle.std.proofs.Math.Dec.eqb k done ≡ true) × (k ≡ done)) ⊎ ((Rattle.std.proofs.Math.Dec.eqb k done ≡ false) × (k ≢ done)) → (k < done) ⊎ (k ≡ done)
          split (inl (b, e)) = inr e
          split (inr (b, n)) = inl (omega (arith, l, n))

      by_whole : (k j x : ℕ) → slice_get (found ++ users_at left number) k ≡ Some j → Among (users_at users j) x → (k < done) ⊎ (k ≡ done) → Among (found ++ users_at left number) x
      by_whole k j x f h (inl l) = in_left found (users_at left number) x (s.whole k j x l (sym (front_same found (users_at left number) k (omega (arith, l, within))) ∙ f) h)
      by_whole k j x f h (inr g) = last (s.taken j x h)
        where
          here : number ≡ j
          here = let m : slice_get found done ≡ Some j = sym (front_same found (users_at left number) done within) ∙ ap (slice_get (found ++ users_at left number)) (sym g) ∙ f in some_same (sym e ∙ m)
            where
              some_same : Some number ≡ Some j → number ≡ j
              some_same e = cc

          last : Among (users_at left j) x ⊎ Among found x → Among (found ++ users_at left number) x
          last (inl i) = in_right found (users_at left number) x (rw here i)
          last (inr i) = in_left found (users_at left number) x i

-- ---- at the end

some_place : (xs : List ℕ) (x : ℕ) → Among xs x → (k : ℕ) × (k < length xs) × (slice_get xs k ≡ Some x)
some_place [] x h = absurd h
some_place (y ∷ xs) x (inl e) = (0, omega arith, ap Some e)
some_place (y ∷ xs) x (inr h) = let p = some_place xs x h in (suc p.0, omega (arith, p.1), p.2)

all_done : (xs : List ℕ) (n : ℕ) → slice_get xs n ≡ None → length xs ≤ n
all_done [] n e = omega arith
all_done (x ∷ xs) zero e = cc
all_done (x ∷ xs) (suc n) e = omega (arith, all_done xs n e)

module _ (users : List (List ℕ)) (first found : List ℕ) (left : List (List ℕ)) (done : ℕ) (s : Spread users first found left done) (e : slice_get found done ≡ None) where
  all_found : (x : ℕ) → Reached users first x → Among found x
  all_found x (begins i c) = s.begun x (listed first x c)
  all_found x (follows j i r c) =
      let p = some_place found j (all_found j r) in
      s.whole p.0 j x (omega (arith, p.1, all_done found done e)) p.2 (listed (users_at users j) x c)

  pub at_last : spec.IsReached users first found
  at_last x = (λ c. s.sound x (listed found x c), λ r. contained found x (all_found x r))

-- ---- by what code has

pub next : (users : List (List ℕ)) (first found : List ℕ) (left : List (List ℕ)) (done number : ℕ) (more after : List ℕ) (rest : List (List ℕ)) →
    Spread users first found left done → Some number ≡ slice_get found done → more ≡ users_at left number → rest ≡ spec.without left number → after ≡ found ++ more → Spread users first after rest (done + 1)
next users first found left done number more after rest s e f g h =
    let a : after ≡ found ++ users_at left number = h ∙ ap (λ l. found ++ l) f in
    let n : done + 1 ≡ suc done = omega arith in
    rw (a, g, n) (turn users first found left done number s (sym e))
