-- A list of parts of which one may be the last, and what may follow a part depends on it.
use Rattle.std.proofs.Common.{◌≡◌, ℕ, zero, suc, ◌≤◌, Bool, true, false, List, [], ◌∷◌, ◌++◌, length, inl, inr, refl, sym, ◌∙◌, ap, subst, arith, append_assoc, length-append, append-nil}
use Rattle.std.specs.Prelude.{if◌then◌else◌}
use Rattle.hv_tree.specs.declared.token.Token.{Token}
use Rattle.hv_tree.specs.Tokens.{Tokens}
use Rattle.hv_syn_grammar.specs.Parser.{Read, Got, Off, Deep, Parser, read_then, ◌>>=◌, done, passes, choose, unless_last, until_within, until}
use Rattle.hv_syn_exact.proofs.Exact.{Exact, GotBy, Sound, Stops, Begins, Succeeds, Then, Either, Nothing, then_sound, choose_sound, sound_by, done_exact, nowhere, begins_passes, stops_passes, shorter, then_succeeds}

-- as Exact, where what goes on after a value depends on the value
pub record ExactAt {A : Type 0} (d d' : ℕ) (goes_on : A → Token → Bool) (R : A → Tokens → Type 0) (p : Parser A) : Type 0 where
  pub sound : (ts : Tokens) → Sound d d' R p (p ts) ts
  pub whole : (a : A) (front rest : Tokens) → R a front → Stops (goes_on a) rest → Succeeds a rest (p (front ++ rest))
  pub can : (a : A) × (x : Tokens) × R a x

abbrev pub Until : {A : Type 0} → (A → Tokens → Type 0) → (A → Bool) → List A → Tokens → Type 0
Until R last [] ts = ts ≡ []
Until R last (a ∷ more) ts = (x : Tokens) × (y : Tokens) × R a x × Until R last more y × (last a ≡ true → more ≡ []) × (ts ≡ x ++ y)

-- the rest of the list after a part
abbrev pub Onward : {A : Type 0} → (A → Tokens → Type 0) → (A → Bool) → A → List A → Tokens → Type 0
Onward R last a l ts = (more : _) × Until R last more ts × (last a ≡ true → more ≡ []) × (l ≡ a ∷ more)

module _ {A : Type 0} (d : ℕ) (test : Token → Bool) (last : A → Bool) (on_p : A → Token → Bool) (R : A → Tokens → Type 0) (p : Parser A) (P : ExactAt d d on_p R p) (first : (a : A) (x : Tokens) → R a x → Begins test x) where
  abbrev tail : ℕ → A → Parser (List A)
  tail n a = unless_last (last a) a (until_within n test last p)

  same_tail : (b : Bool) (a : A) (q r : Parser (List A)) (ts : Tokens) → q ts ≡ r ts → unless_last b a q ts ≡ unless_last b a r ts
  same_tail true a q r ts e = refl
  same_tail false a q r ts e = ap (λ x. read_then x (λ more. done (a ∷ more))) e

  enough_read : (n m : ℕ) (ts : Tokens) → length ts ≤ suc n → length ts ≤ suc m → (r : Read A) → Sound d d R p r ts → ((rest : Tokens) → length rest ≤ n → length rest ≤ m → until_within n test last p rest ≡ until_within m test last p rest) → read_then r (tail n) ≡ read_then r (tail m)
  enough_read n m ts x y (Got a rest) g h = same_tail (last a) a (until_within n test last p) (until_within m test last p) rest (h rest (shorter test g.front rest ts n (first a g.front g.reads) g.is x) (shorter test g.front rest ts m (first a g.front g.reads) g.is y))
  enough_read n m ts x y (Off rest) g h = refl
  enough_read n m ts x y (Deep rest) g h = refl

  enough : (n m : ℕ) (ts : Tokens) → length ts ≤ n → length ts ≤ m → until_within n test last p ts ≡ until_within m test last p ts
  enough zero zero ts x y = refl
  enough zero (suc m) [] x y = refl
  enough zero (suc m) (k ∷ ts) x y = absurd (omega arith)
  enough (suc n) zero [] x y = refl
  enough (suc n) zero (k ∷ ts) x y = absurd (omega arith)
  enough (suc n) (suc m) ts x y = ap (λ r. if passes test ts then r else Got [] ts) (enough_read n m ts x y (p ts) (P.sound ts) (λ rest a b. enough n m rest a b))

  abbrev onward : A → Parser (List A)
  onward a = unless_last (last a) a (until test last p)

  abbrev once : Parser (List A)
  once = choose test (p >>= onward) (done [])

  unrolled_read : (n : ℕ) (ts : Tokens) → length ts ≤ suc n → (r : Read A) → Sound d d R p r ts → read_then r (tail n) ≡ read_then r onward
  unfolding until
  unrolled_read n ts x (Got a rest) g = same_tail (last a) a (until_within n test last p) (until test last p) rest (enough n (length rest) rest (shorter test g.front rest ts n (first a g.front g.reads) g.is x) (omega arith))
  unrolled_read n ts x (Off rest) g = refl
  unrolled_read n ts x (Deep rest) g = refl

  unrolled_at : (ts : Tokens) (n : ℕ) → length ts ≡ n → until_within n test last p ts ≡ once ts
  unrolled_at ts zero e = none ts e
    where
      none : (ts : Tokens) → length ts ≡ zero → Got [] ts ≡ once ts
      none [] e = refl
      none (k ∷ ts) e = absurd (omega (arith, e))
  unrolled_at ts (suc n) e = ap (λ r. if passes test ts then r else Got [] ts) (unrolled_read n ts (omega arith) (p ts) (P.sound ts))

  unrolled : (ts : Tokens) → until test last p ts ≡ once ts
  unfolding until
  unrolled ts = unrolled_at ts (length ts) refl

  to_until : (l : List A) (ts : Tokens) → Either (Then R (Onward R last)) (Nothing []) l ts → Until R last l ts
  to_until l ts (inl t) = let o = t.4 in subst (λ l. Until R last l ts) (sym o.3) (t.1, t.2, t.3, o.1, o.2, t.5)
  to_until l ts (inr t) = subst (λ l. Until R last l ts) (sym t.0) t.1

  onward_sound : (b : Bool) (a : A) (mid : Tokens) → last a ≡ b → Sound d d (Until R last) (until test last p) (until test last p mid) mid → Sound d d (Onward R last a) (unless_last b a (until test last p)) (unless_last b a (until test last p) mid) mid
  onward_sound true a mid e h = record { front = []; is = refl; reads = ([], refl, (λ q. refl), refl); fits = refl; again = λ other same. refl }
  onward_sound false a mid e h =
      sound_by d d (Then (Until R last) (λ more. Nothing (a ∷ more))) (Onward R last a) (until test last p >>= (λ more. done (a ∷ more))) (until test last p >>= (λ more. done (a ∷ more))) mid
      (λ l x t. (t.0, subst (Until R last t.0) (sym (t.5 ∙ ap (λ z. t.1 ++ z) t.4.1 ∙ append-nil t.1)) t.3, (λ q. absurd (clash q)), t.4.0))
      (λ front rest other is same. refl) (read_then (until test last p mid) (λ more. done (a ∷ more)))
      (then_sound d d d (Until R last) (λ more. Nothing (a ∷ more)) (until test last p) (λ more. done (a ∷ more)) (λ more x r. (a ∷ more, [], (refl, refl))) mid (until test last p mid) h (λ more rest g2. (done_exact d nowhere (a ∷ more)).sound rest))
    where
      clash : last a ≡ true → ⊥
      clash q = let z : true ≡ false = sym q ∙ e in cc

  until_step : (ts : Tokens) → ((a : A) (mid : Tokens) → GotBy d d R p a mid ts → Sound d d (Until R last) (until test last p) (until test last p mid) mid) → Sound d d (Until R last) (until test last p) (until test last p ts) ts
  until_step ts h =
      subst (λ r. Sound d d (Until R last) (until test last p) r ts) (sym (unrolled ts))
      (sound_by d d (Either (Then R (Onward R last)) (Nothing [])) (Until R last) once (until test last p) ts to_until (λ front rest other e same. unrolled (front ++ other)) (once ts)
      (choose_sound d d test (Then R (Onward R last)) (Nothing []) (p >>= onward) (done []) ts
      (then_sound d d d R (Onward R last) p onward (λ a x r. (a ∷ [], [], ([], refl, (λ q. refl), refl))) ts (p ts) (P.sound ts) (λ a mid g. onward_sound (last a) a mid refl (h a mid g)))
      ((done_exact d nowhere []).sound ts)))

  until_sound_within : (n : ℕ) (ts : Tokens) → length ts ≤ n → Sound d d (Until R last) (until test last p) (until test last p ts) ts
  until_sound_within zero ts le = until_step ts (λ a mid g. absurd (empty g.front ts mid (first a g.front g.reads) g.is le))
    where
      empty : (front ts rest : Tokens) → Begins test front → ts ≡ front ++ rest → length ts ≤ zero → ⊥
      empty [] ts rest b is le = b
      empty (k ∷ front) ts rest b is le = omega (arith, ap length is, length-append front rest)
  until_sound_within (suc n) ts le = until_step ts (λ a mid g. until_sound_within n mid (shorter test g.front mid ts n (first a g.front g.reads) g.is le))

  module _ (on : Token → Bool) (on_test : (rest : Tokens) → Stops on rest → Stops test rest) (on_less : (a : A) (rest : Tokens) → Stops on rest → Stops (on_p a) rest) (apart : (a : A) (k : Token) → last a ≡ false → test k ≡ true → on_p a k ≡ false) where
    item_stops : (a : A) (b : Bool) → last a ≡ b → (l : List A) (y rest : Tokens) → Until R last l y → (last a ≡ true → l ≡ []) → Stops on rest → Stops (on_p a) (y ++ rest)
    item_stops a b e [] y rest m final stops = subst (λ y. Stops (on_p a) (y ++ rest)) (sym m) (on_less a rest stops)
    item_stops a true e (x ∷ l) y rest m final stops = let z : x ∷ l ≡ [] = final e in absurd (cc)
    item_stops a false e (x ∷ l) y rest m final stops = subst (λ y. Stops (on_p a) (y ++ rest)) (sym m.5) (begun m.0 (first x m.0 m.2))
      where
        begun : (x : Tokens) → Begins test x → Stops (on_p a) ((x ++ m.1) ++ rest)
        begun [] b = absurd b
        begun (k ∷ x) b = apart a k e b

    empties : (more : List A) (y : Tokens) → more ≡ [] → Until R last more y → y ≡ []
    empties [] y n m = m
    empties (a ∷ more) y n m = absurd (cc)

    onward_succeeds : (b : Bool) (a : A) (more : List A) (mid rest : Tokens) → last a ≡ b → (last a ≡ true → more ≡ []) → (more ≡ [] → mid ≡ rest) → Succeeds more rest (until test last p mid) → Succeeds (a ∷ more) rest (unless_last b a (until test last p) mid)
    onward_succeeds true a more mid rest e final ends s = let n = final e in (ap (λ l. a ∷ l) n, sym (ends n))
    onward_succeeds false a more mid rest e final ends s = then_succeeds (λ more. done (a ∷ more)) more (a ∷ more) rest rest (until test last p mid) s (refl, refl)

    until_whole : (l : List A) (front rest : Tokens) → Until R last l front → Stops on rest → Succeeds l rest (until test last p (front ++ rest))
    until_whole [] front rest m stops =
        let e : until test last p (front ++ rest) ≡ Got [] rest = ap (λ x. until test last p (x ++ rest)) m ∙ unrolled rest ∙ ap (λ b. if b then (p >>= onward) rest else Got [] rest) (stops_passes test rest (on_test rest stops)) in
        subst (λ r. Succeeds [] rest r) (sym e) (refl, refl)
    until_whole (a ∷ more) front rest m stops =
        let x = m.0 in let y = m.1 in
        let e : until test last p (front ++ rest) ≡ (p >>= onward) (x ++ (y ++ rest)) =
        ap (λ z. until test last p (z ++ rest)) m.5 ∙ ap (until test last p) (append_assoc x y rest) ∙ unrolled (x ++ (y ++ rest)) ∙ ap (λ b. if b then (p >>= onward) (x ++ (y ++ rest)) else Got [] (x ++ (y ++ rest))) (begins_passes test x (y ++ rest) (first a x m.2)) in
        let s : Succeeds a (y ++ rest) (p (x ++ (y ++ rest))) = P.whole a x (y ++ rest) m.2 (item_stops a (last a) refl more y rest m.3 m.4 stops) in
        let u : Succeeds (a ∷ more) rest (onward a (y ++ rest)) = onward_succeeds (last a) a more (y ++ rest) rest refl m.4 (λ n. ap (λ y. y ++ rest) (empties more y n m.3)) (until_whole more y rest m.3 stops) in
        subst (λ r. Succeeds (a ∷ more) rest r) (sym e) (then_succeeds onward a (a ∷ more) (y ++ rest) rest (p (x ++ (y ++ rest))) s u)

    pub until_exact : Exact d d on (Until R last) (until test last p)
    until_exact = record {
      can = ([], [], refl);
      sound = λ ts. until_sound_within (length ts) ts (omega arith);
      whole = until_whole;
    }
