-- What it is that a parser reads exactly a relation, and that each step keeps it.
use Rattle.std.proofs.Common.{◌≡◌, ℕ, zero, suc, ◌≤◌, Bool, true, false, List, [], ◌∷◌, ◌++◌, length, Option, Some, None, ◌⊎◌, inl, inr, refl, sym, ◌∙◌, ap, subst, arith, append_assoc, length-append, append-nil}
use Rattle.std.specs.Prelude.{if◌then◌else◌}
use Rattle.hv_tree.specs.declared.token.Token.{Token}
use Rattle.hv_tree.specs.Tokens.{Tokens}
use Rattle.hv_syn_grammar.specs.Parser.{Read, Got, Off, Deep, Parser, read_then, ◌>>=◌, done, take, if_room, enter, passes, choose, many_within, many}
use Rattle.hv_syn_grammar.specs.Room.{room, room_by, one_less, option_then}
use Rattle.hv_tree.specs.Refusal.{is_opening, is_closing}

abbrev pub Relation : Type 0 → Type 1
Relation A = A → Tokens → Type 0

-- both are empty, or they begin with the same token
abbrev pub SameHead : Tokens → Tokens → Type 0
SameHead [] [] = Unit {0}
SameHead [] (k ∷ ts) = ⊥
SameHead (k ∷ ts) [] = ⊥
SameHead (k ∷ ts) (j ∷ us) = k ≡ j

pub same_head : (ts : Tokens) → SameHead ts ts
same_head [] = tt
same_head (k ∷ ts) = refl

pub same_after : (front : Tokens) (ts us : Tokens) → SameHead ts us → SameHead (front ++ ts) (front ++ us)
same_after [] ts us h = h
same_after (k ∷ front) ts us h = refl

-- the list is empty, or its first token fails the test
abbrev pub Stops : (Token → Bool) → Tokens → Type 0
Stops test [] = Unit {0}
Stops test (k ∷ ts) = test k ≡ false

-- the first token passes the test
abbrev pub Begins : (Token → Bool) → Tokens → Type 0
Begins test [] = ⊥
Begins test (k ∷ ts) = test k ≡ true

-- some list that has the relation begins with these tokens
abbrev pub Viable : {A : Type 0} → (A → Tokens → Type 0) → Tokens → Type 0
Viable R front = (a : _) × (c : Tokens) × R a (front ++ c)

module _ {A : Type 0} (d d' : ℕ) (R : A → Tokens → Type 0) (p : Parser A) where
  pub record GotBy (a : A) (rest ts : Tokens) : Type 0 where
    pub front : Tokens
    pub is : ts ≡ front ++ rest
    pub reads : R a front
    pub fits : room d front ≡ Some d'
    pub again : (other : Tokens) → SameHead rest other → p (front ++ other) ≡ Got a other

  pub record OffBy (rest ts : Tokens) : Type 0 where
    pub front : Tokens
    pub is : ts ≡ front ++ rest
    pub left : ℕ
    pub fits : room d front ≡ Some left
    pub viable : Viable R front
    pub again : (other : Tokens) → SameHead rest other → p (front ++ other) ≡ Off other

  pub record DeepBy (rest ts : Tokens) : Type 0 where
    pub front : Tokens
    pub is : ts ≡ front ++ rest
    pub bracket : Token
    pub after : Tokens
    pub begins : rest ≡ bracket ∷ after
    pub opening : is_opening bracket ≡ true
    pub full : room d front ≡ Some 0
    pub viable : Viable R (front ++ bracket ∷ [])

  abbrev pub Sound : Read A → Tokens → Type 0
  Sound (Got a rest) ts = GotBy a rest ts
  Sound (Off rest) ts = OffBy rest ts
  Sound (Deep rest) ts = DeepBy rest ts

abbrev pub Succeeds : {A : Type 0} → A → Tokens → Read A → Type 0
Succeeds a rest (Got b r) = (a ≡ b) × (rest ≡ r)
Succeeds a rest (Off r) = ⊥
Succeeds a rest (Deep r) = Unit {0}

pub record Exact {A : Type 0} (d d' : ℕ) (goes_on : Token → Bool) (R : A → Tokens → Type 0) (p : Parser A) : Type 0 where
  pub sound : (ts : Tokens) → Sound d d' R p (p ts) ts
  pub whole : (a : A) (front rest : Tokens) → R a front → Stops goes_on rest → Succeeds a rest (p (front ++ rest))
  pub can : (a : A) × (x : Tokens) × R a x

room_append_at : (o : Option ℕ) (a b : Tokens) → ((e : ℕ) → room e (a ++ b) ≡ option_then (room e a) (λ e. room e b)) → option_then o (λ e. room e (a ++ b)) ≡ option_then (option_then o (λ e. room e a)) (λ e. room e b)
room_append_at None a b h = refl
room_append_at (Some e) a b h = h e

room_append : (d : ℕ) (a b : Tokens) → room d (a ++ b) ≡ option_then (room d a) (λ e. room e b)
room_append d [] b = refl
room_append d (k ∷ a) b = room_append_at (room_by k d) a b (λ e. room_append e a b)

pub room_both : (d e f : ℕ) (o : Option ℕ) (a b : Tokens) → room d a ≡ Some e → room e b ≡ o → room d (a ++ b) ≡ o
room_both d e f o a b x y = room_append d a b ∙ ap (λ q. option_then q (λ n. room n b)) x ∙ y

-- ---- one after the other

abbrev pub Then : {A B : Type 0} → (A → Tokens → Type 0) → (A → B → Tokens → Type 0) → B → Tokens → Type 0
Then R S b ts = (a : _) × (x : Tokens) × (y : Tokens) × R a x × S a b y × (ts ≡ x ++ y)

module _ {A B : Type 0} (d e f : ℕ) (R : A → Tokens → Type 0) (S : A → B → Tokens → Type 0) (p : Parser A) (q : A → Parser B) where
  then_got : (a : A) (mid ts : Tokens) → GotBy d e R p a mid ts → (r : Read B) → Sound e f (S a) (q a) r mid → Sound d f (Then R S) (p >>= q) r ts
  then_got a mid ts g (Got b rest) h = record {
    front = g.front ++ h.front;
    is = g.is ∙ ap (λ m. g.front ++ m) h.is ∙ sym (append_assoc g.front h.front rest);
    reads = (a, g.front, h.front, g.reads, h.reads, refl);
    fits = room_both d e f (Some f) g.front h.front g.fits h.fits;
    again = λ other same.
        ap (λ l. read_then (p l) q) (append_assoc g.front h.front other)
        ∙ ap (λ r. read_then r q) (g.again (h.front ++ other) (subst (λ m. SameHead m (h.front ++ other)) (sym h.is) (same_after h.front rest other same)))
        ∙ h.again other same;
  }
  then_got a mid ts g (Off rest) h = record {
    front = g.front ++ h.front;
    is = g.is ∙ ap (λ m. g.front ++ m) h.is ∙ sym (append_assoc g.front h.front rest);
    left = h.left;
    fits = room_both d e f (Some h.left) g.front h.front g.fits h.fits;
    viable = (h.viable.0, h.viable.1, (a, g.front, h.front ++ h.viable.1, g.reads, h.viable.2, append_assoc g.front h.front h.viable.1));
    again = λ other same.
        ap (λ l. read_then (p l) q) (append_assoc g.front h.front other)
        ∙ ap (λ r. read_then r q) (g.again (h.front ++ other) (subst (λ m. SameHead m (h.front ++ other)) (sym h.is) (same_after h.front rest other same)))
        ∙ h.again other same;
  }
  then_got a mid ts g (Deep rest) h = record {
    front = g.front ++ h.front;
    is = g.is ∙ ap (λ m. g.front ++ m) h.is ∙ sym (append_assoc g.front h.front rest);
    bracket = h.bracket;
    after = h.after;
    begins = h.begins;
    opening = h.opening;
    full = room_both d e f (Some 0) g.front h.front g.fits h.full;
    viable = (
      h.viable.0,
      h.viable.1,
      (
        a,
        g.front,
        (h.front ++ h.bracket ∷ []) ++ h.viable.1,
        g.reads,
        h.viable.2,
        ap (λ l. l ++ h.viable.1) (append_assoc g.front h.front (h.bracket ∷ [])) ∙ append_assoc g.front (h.front ++ h.bracket ∷ []) h.viable.1,
      ),
    );
  }

  module _ (can : (a : A) (x : Tokens) → R a x → (b : B) × (y : Tokens) × S a b y) where
    on_viable : (front : Tokens) → Viable R front → Viable (Then R S) front
    on_viable front v =
        let c = can v.0 (front ++ v.1) v.2 in
        (c.0, v.1 ++ c.1, (v.0, front ++ v.1, c.1, v.2, c.2, sym (append_assoc front v.1 c.1)))

    pub then_sound : (ts : Tokens) (r : Read A) → Sound d e R p r ts → ((a : A) (mid : Tokens) → GotBy d e R p a mid ts → Sound e f (S a) (q a) (q a mid) mid) → Sound d f (Then R S) (p >>= q) (read_then r q) ts
    then_sound ts (Got a mid) g h = then_got a mid ts g (q a mid) (h a mid g)
    then_sound ts (Off rest) g h = record {
      front = g.front;
      is = g.is;
      left = g.left;
      fits = g.fits;
      viable = on_viable g.front g.viable;
      again = λ other same. ap (λ r. read_then r q) (g.again other same);
    }
    then_sound ts (Deep rest) g h = record {
      front = g.front;
      is = g.is;
      bracket = g.bracket;
      after = g.after;
      begins = g.begins;
      opening = g.opening;
      full = g.full;
      viable = on_viable (g.front ++ g.bracket ∷ []) g.viable;
    }

pub then_succeeds : {A B : Type 0} (q : A → Parser B) (a : A) (b : B) (mid rest : Tokens) (r : Read A) → Succeeds a mid r → Succeeds b rest (q a mid) → Succeeds b rest (read_then r q)
then_succeeds q a b mid rest (Got a' mid') h s = subst (λ v. Succeeds b rest (q v mid')) h.0 (subst (λ m. Succeeds b rest (q a m)) h.1 s)
then_succeeds q a b mid rest (Off r) h s = absurd h
then_succeeds q a b mid rest (Deep r) h s = tt

pub then_exact : {A B : Type 0} (d e f : ℕ) (on on' : Token → Bool) (R : A → Tokens → Type 0) (S : A → B → Tokens → Type 0) (p : Parser A) (q : A → Parser B) →
    Exact d e on R p →
    ((a : A) → Exact e f on' (S a) (q a)) →
    ((a : A) (b : B) (y rest : Tokens) → S a b y → Stops on' rest → Stops on (y ++ rest)) →
    Exact d f on' (Then R S) (p >>= q)
then_exact d e f on on' R S p q P Q follows = record {
  can = let c = P.can in let h = (Q c.0).can in (h.0, c.1 ++ h.1, (c.0, c.1, h.1, c.2, h.2, refl));
  sound = λ ts. then_sound d e f R S p q (λ a x r. (Q a).can) ts (p ts) (P.sound ts) (λ a mid g. (Q a).sound mid);
  whole = λ b front rest (t : Then R S b front) stops.
      let a = t.0 in let x = t.1 in let y = t.2 in
      let s : Succeeds a (y ++ rest) (p (x ++ (y ++ rest))) = P.whole a x (y ++ rest) t.3 (follows a b y rest t.4 stops) in
      let s' : Succeeds a (y ++ rest) (p (front ++ rest)) = subst (λ l. Succeeds a (y ++ rest) (p l)) (sym (append_assoc x y rest) ∙ ap (λ l. l ++ rest) (sym t.5)) s in
      then_succeeds q a b (y ++ rest) rest (p (front ++ rest)) s' ((Q a).whole b y rest t.4 stops);
}

-- ---- another parser that does the same from here on, and a wider relation

pub sound_by : {A : Type 0} (d f : ℕ) (R S : A → Tokens → Type 0) (p q : Parser A) (ts : Tokens) →
    ((a : A) (x : Tokens) → R a x → S a x) →
    ((front rest other : Tokens) → ts ≡ front ++ rest → SameHead rest other → q (front ++ other) ≡ p (front ++ other)) →
    (r : Read A) → Sound d f R p r ts → Sound d f S q r ts
sound_by d f R S p q ts to agrees (Got a rest) g = record {
  front = g.front;
  is = g.is;
  reads = to a g.front g.reads;
  fits = g.fits;
  again = λ other same. agrees g.front rest other g.is same ∙ g.again other same;
}
sound_by d f R S p q ts to agrees (Off rest) g = record {
  front = g.front;
  is = g.is;
  left = g.left;
  fits = g.fits;
  viable = (g.viable.0, g.viable.1, to g.viable.0 (g.front ++ g.viable.1) g.viable.2);
  again = λ other same. agrees g.front rest other g.is same ∙ g.again other same;
}
sound_by d f R S p q ts to agrees (Deep rest) g = record {
  front = g.front;
  is = g.is;
  bracket = g.bracket;
  after = g.after;
  begins = g.begins;
  opening = g.opening;
  full = g.full;
  viable = (g.viable.0, g.viable.1, to g.viable.0 ((g.front ++ g.bracket ∷ []) ++ g.viable.1) g.viable.2);
}

pub exact_by : {A : Type 0} (d f : ℕ) (on : Token → Bool) (R S : A → Tokens → Type 0) (p : Parser A) →
    Exact d f on R p → ((a : A) (x : Tokens) → R a x → S a x) → ((a : A) (x : Tokens) → S a x → R a x) → Exact d f on S p
exact_by d f on R S p P to from = record {
  can = (P.can.0, P.can.1, to P.can.0 P.can.1 P.can.2);
  sound = λ ts. sound_by d f R S p p ts to (λ front rest other e same. refl) (p ts) (P.sound ts);
  whole = λ a front rest s stops. P.whole a front rest (from a front s) stops;
}

pub exact_same : {A : Type 0} (d f : ℕ) (on : Token → Bool) (R : A → Tokens → Type 0) (p q : Parser A) → ((ts : Tokens) → q ts ≡ p ts) → Exact d f on R p → Exact d f on R q
exact_same d f on R p q same P = record {
  can = P.can;
  sound = λ ts. subst (λ r. Sound d f R q r ts) (sym (same ts)) (sound_by d f R R p q ts (λ a x r. r) (λ front rest other e s. same (front ++ other)) (p ts) (P.sound ts));
  whole = λ a front rest r stops. subst (Succeeds a rest) (sym (same (front ++ rest))) (P.whole a front rest r stops);
}

pub exact_on : {A : Type 0} (d f : ℕ) (on on' : Token → Bool) (R : A → Tokens → Type 0) (p : Parser A) →
    Exact d f on R p → ((rest : Tokens) → Stops on' rest → Stops on rest) → Exact d f on' R p
exact_on d f on on' R p P less = record {
  can = P.can;
  sound = P.sound;
  whole = λ a front rest r stops. P.whole a front rest r (less rest stops);
}

-- ---- nothing

abbrev pub Nothing : {A : Type 0} → A → A → Tokens → Type 0
Nothing a b ts = (b ≡ a) × (ts ≡ [])

pub done_exact : {A : Type 0} (d : ℕ) (on : Token → Bool) (a : A) → Exact d d on (Nothing a) (done a)
done_exact d on a = record {
  can = (a, [], (refl, refl));
  sound = λ ts. record { front = []; is = refl; reads = (refl, refl); fits = refl; again = λ other same. refl };
  whole = λ b front rest r stops. (r.0, ap (λ l. l ++ rest) (sym r.1));
}

-- ---- one token

abbrev pub One : (Token → Bool) → Token → Tokens → Type 0
One test k ts = (test k ≡ true) × (ts ≡ k ∷ [])

module _ (d f : ℕ) (test : Token → Bool) (some : Token) (passed : test some ≡ true) (moves : (k : Token) → test k ≡ true → room d (k ∷ []) ≡ Some f) where
  take_sound_at : (k : Token) (ts : Tokens) (b : Bool) → test k ≡ b → Sound d f (One test) (take test) (if b then Got k ts else Off (k ∷ ts)) (k ∷ ts)
  take_sound_at k ts true e = record {
    front = k ∷ [];
    is = refl;
    reads = (e, refl);
    fits = moves k e;
    again = λ other same. ap (λ b. if b then Got k other else Off (k ∷ other)) e;
  }
  take_sound_at k ts false e = record {
    front = [];
    is = refl;
    left = d;
    fits = refl;
    viable = (some, some ∷ [], (passed, refl));
    again = λ other same. take_off other same;
  }
    where
      take_off : (other : Tokens) → SameHead (k ∷ ts) other → take test other ≡ Off other
      take_off [] same = absurd same
      take_off (j ∷ other) same = ap (λ b. if b then Got j other else Off (j ∷ other)) (ap test (sym same) ∙ e)

  take_sound : (ts : Tokens) → Sound d f (One test) (take test) (take test ts) ts
  take_sound [] = record {
    front = [];
    is = refl;
    left = d;
    fits = refl;
    viable = (some, some ∷ [], (passed, refl));
    again = λ other same. take_none other same;
  }
    where
      take_none : (other : Tokens) → SameHead [] other → take test other ≡ Off other
      take_none [] same = refl
      take_none (j ∷ other) same = absurd same
  take_sound (k ∷ ts) = take_sound_at k ts (test k) refl

  pub take_exact : (on : Token → Bool) → Exact d f on (One test) (take test)
  take_exact on = record {
    can = (some, some ∷ [], (passed, refl));
    sound = take_sound;
    whole = λ k front rest r stops.
        let e : take test (front ++ rest) ≡ Got k rest = ap (λ l. take test (l ++ rest)) r.1 ∙ ap (λ b. if b then Got k rest else Off (k ∷ rest)) r.0 in
        subst (λ q. Succeeds k rest q) (sym e) (refl, refl);
  }

-- ---- by the next token

passes_same : (test : Token → Bool) (ts us : Tokens) → SameHead ts us → passes test ts ≡ passes test us
passes_same test [] [] h = refl
passes_same test [] (k ∷ us) h = absurd h
passes_same test (k ∷ ts) [] h = absurd h
passes_same test (k ∷ ts) (j ∷ us) h = ap test h

pub begins_passes : (test : Token → Bool) (ts rest : Tokens) → Begins test ts → passes test (ts ++ rest) ≡ true
begins_passes test [] rest h = absurd h
begins_passes test (k ∷ ts) rest h = h

pub stops_passes : (test : Token → Bool) (ts : Tokens) → Stops test ts → passes test ts ≡ false
stops_passes test [] h = refl
stops_passes test (k ∷ ts) h = h

abbrev pub Either : {A : Type 0} → (A → Tokens → Type 0) → (A → Tokens → Type 0) → A → Tokens → Type 0
Either R S a ts = R a ts ⊎ S a ts

module _ {A : Type 0} (d f : ℕ) (test : Token → Bool) (R S : A → Tokens → Type 0) (p q : Parser A) where
  choose_again : (ts : Tokens) (b : Bool) → passes test ts ≡ b → (front rest other : Tokens) → ts ≡ front ++ rest → SameHead rest other → choose test p q (front ++ other) ≡ (if b then p (front ++ other) else q (front ++ other))
  choose_again ts b e front rest other is same =
      ap (λ c. if c then p (front ++ other) else q (front ++ other)) (sym (passes_same test (front ++ rest) (front ++ other) (same_after front rest other same)) ∙ ap (passes test) (sym is) ∙ e)

  choose_sound_at : (ts : Tokens) (b : Bool) → passes test ts ≡ b → Sound d f R p (p ts) ts → Sound d f S q (q ts) ts → Sound d f (Either R S) (choose test p q) (if b then p ts else q ts) ts
  choose_sound_at ts true e P Q = sound_by d f R (Either R S) p (choose test p q) ts (λ a x r. inl r) (choose_again ts true e) (p ts) P
  choose_sound_at ts false e P Q = sound_by d f S (Either R S) q (choose test p q) ts (λ a x r. inr r) (choose_again ts false e) (q ts) Q

  pub choose_sound : (ts : Tokens) → Sound d f R p (p ts) ts → Sound d f S q (q ts) ts → Sound d f (Either R S) (choose test p q) (choose test p q ts) ts
  choose_sound ts P Q = choose_sound_at ts (passes test ts) refl P Q

  pub choose_exact : (on on_p on_q : Token → Bool) → Exact d f on_p R p → Exact d f on_q S q →
      ((a : A) (x : Tokens) → R a x → Begins test x) →
      ((a : A) (x rest : Tokens) → S a x → Stops on rest → Stops test (x ++ rest)) →
      ((rest : Tokens) → Stops on rest → Stops on_p rest) →
      ((rest : Tokens) → Stops on rest → Stops on_q rest) →
      Exact d f on (Either R S) (choose test p q)
  choose_exact on on_p on_q P Q first other less_p less_q = record {
    can = (P.can.0, P.can.1, inl P.can.2);
    sound = λ ts. choose_sound ts (P.sound ts) (Q.sound ts);
    whole = choose_whole;
  }
    where
      choose_whole : (a : A) (front rest : Tokens) → Either R S a front → Stops on rest → Succeeds a rest (choose test p q (front ++ rest))
      choose_whole a front rest (inl r) stops =
          subst (λ b. Succeeds a rest (if b then p (front ++ rest) else q (front ++ rest))) (sym (begins_passes test front rest (first a front r))) (P.whole a front rest r (less_p rest stops))
      choose_whole a front rest (inr s) stops =
          subst (λ b. Succeeds a rest (if b then p (front ++ rest) else q (front ++ rest))) (sym (stops_passes test (front ++ rest) (other a front rest s stops))) (Q.whole a front rest s (less_q rest stops))

-- ---- an opening bracket and what follows it

abbrev pub nowhere : Token → Bool
nowhere k = false

pub never : (ts : Tokens) → Stops nowhere ts
never [] = tt
never (k ∷ ts) = refl

room_one : (d e : ℕ) (k : Token) → room_by k d ≡ Some e → room d (k ∷ []) ≡ Some e
room_one d e k h = ap (λ o. option_then o (λ e. room e [])) h

opens_by : (k : Token) (d : ℕ) → is_opening k ≡ true → room_by k (suc d) ≡ Some d
opens_by k d h = ap (λ b. if b then one_less (suc d) else (if is_closing k then Some (suc (suc d)) else Some (suc d))) h

module _ (test : Token → Bool) (some : Token) (passed : test some ≡ true) (opens : (k : Token) → test k ≡ true → is_opening k ≡ true) where
  enter_sound_at : (d : ℕ) (k : Token) (ts : Tokens) (b : Bool) → test k ≡ b → Sound (suc d) d (One test) (enter (suc d) test) (if b then if_room (suc d) k ts else Off (k ∷ ts)) (k ∷ ts)
  enter_sound_at d k ts true e = record {
    front = k ∷ [];
    is = refl;
    reads = (e, refl);
    fits = room_one (suc d) d k (opens_by k d (opens k e));
    again = λ other same. ap (λ b. if b then Got k other else Off (k ∷ other)) e;
  }
  enter_sound_at d k ts false e = record {
    front = [];
    is = refl;
    left = suc d;
    fits = refl;
    viable = (some, some ∷ [], (passed, refl));
    again = λ other same. enter_off other same;
  }
    where
      enter_off : (other : Tokens) → SameHead (k ∷ ts) other → enter (suc d) test other ≡ Off other
      enter_off [] same = absurd same
      enter_off (j ∷ other) same = ap (λ b. if b then Got j other else Off (j ∷ other)) (ap test (sym same) ∙ e)

  enter_sound : (d : ℕ) (ts : Tokens) → Sound (suc d) d (One test) (enter (suc d) test) (enter (suc d) test ts) ts
  enter_sound d [] = record {
    front = [];
    is = refl;
    left = suc d;
    fits = refl;
    viable = (some, some ∷ [], (passed, refl));
    again = λ other same. enter_none other same;
  }
    where
      enter_none : (other : Tokens) → SameHead [] other → enter (suc d) test other ≡ Off other
      enter_none [] same = refl
      enter_none (j ∷ other) same = absurd same
  enter_sound d (k ∷ ts) = enter_sound_at d k ts (test k) refl

  enter_exact : (d : ℕ) (on : Token → Bool) → Exact (suc d) d on (One test) (enter (suc d) test)
  enter_exact d on = record {
    can = (some, some ∷ [], (passed, refl));
    sound = enter_sound d;
    whole = λ k front rest r stops.
        let e : enter (suc d) test (front ++ rest) ≡ Got k rest = ap (λ l. enter (suc d) test (l ++ rest)) r.1 ∙ ap (λ b. if b then Got k rest else Off (k ∷ rest)) r.0 in
        subst (λ q. Succeeds k rest q) (sym e) (refl, refl);
  }

  module _ {B : Type 0} (f : ℕ) (S : Token → B → Tokens → Type 0) (q : Token → Parser B) (can : (k : Token) (x : Tokens) → One test k x → (b : B) × (y : Tokens) × S k b y) where
    full_viable : (k : Token) → test k ≡ true → Viable (Then (One test) S) (k ∷ [])
    full_viable k e = let c = can k (k ∷ []) (e, refl) in (c.0, c.1, (k, k ∷ [], c.1, (e, refl), c.2, refl))

    none_viable : Viable (Then (One test) S) []
    none_viable = let c = full_viable some passed in (c.0, some ∷ c.1, c.2)

    full_sound_at : (k : Token) (ts : Tokens) (b : Bool) → test k ≡ b → Sound 0 f (Then (One test) S) (enter 0 test >>= q) (read_then (if b then if_room 0 k ts else Off (k ∷ ts)) q) (k ∷ ts)
    full_sound_at k ts true e = record {
      front = [];
      is = refl;
      bracket = k;
      after = ts;
      begins = refl;
      opening = opens k e;
      full = refl;
      viable = full_viable k e;
    }
    full_sound_at k ts false e = record {
      front = [];
      is = refl;
      left = 0;
      fits = refl;
      viable = none_viable;
      again = λ other same. full_off other same;
    }
      where
        full_off : (other : Tokens) → SameHead (k ∷ ts) other → read_then (enter 0 test other) q ≡ Off other
        full_off [] same = absurd same
        full_off (j ∷ other) same = ap (λ b. read_then (if b then if_room 0 j other else Off (j ∷ other)) q) (ap test (sym same) ∙ e)

    full_sound : (ts : Tokens) → Sound 0 f (Then (One test) S) (enter 0 test >>= q) (read_then (enter 0 test ts) q) ts
    full_sound [] = record {
      front = [];
      is = refl;
      left = 0;
      fits = refl;
      viable = none_viable;
      again = λ other same. full_none other same;
    }
      where
        full_none : (other : Tokens) → SameHead [] other → read_then (enter 0 test other) q ≡ Off other
        full_none [] same = refl
        full_none (j ∷ other) same = absurd same
    full_sound (k ∷ ts) = full_sound_at k ts (test k) refl

    pub bracket_exact : (d : ℕ) (on : Token → Bool) → ((e : ℕ) → d ≡ suc e → (k : Token) → Exact e f on (S k) (q k)) → Exact d f on (Then (One test) S) (enter d test >>= q)
    bracket_exact zero on Q = record {
      can = (none_viable.0, none_viable.1, none_viable.2);
      sound = full_sound;
      whole = λ b front rest (t : Then (One test) S b front) stops.
          let k = t.0 in
          let e : (enter 0 test >>= q) (front ++ rest) ≡ Deep (k ∷ (t.2 ++ rest)) =
          ap (λ l. (enter 0 test >>= q) (l ++ rest)) (t.5 ∙ ap (λ l. l ++ t.2) t.3.1) ∙ ap (λ c. read_then (if c then if_room 0 k (t.2 ++ rest) else Off (k ∷ (t.2 ++ rest))) q) t.3.0 in
          subst (λ r. Succeeds b rest r) (sym e) tt;
    }
    bracket_exact (suc d) on Q = then_exact (suc d) d f nowhere on (One test) S (enter (suc d) test) q (enter_exact d nowhere) (λ k. Q d refl k) (λ a b y rest s stops. never (y ++ rest))

-- ---- as many as there are

abbrev pub Many : {A : Type 0} → (A → Tokens → Type 0) → List A → Tokens → Type 0
Many R [] ts = ts ≡ []
Many R (a ∷ more) ts = (x : Tokens) × (y : Tokens) × R a x × Many R more y × (ts ≡ x ++ y)

abbrev pub Longer : {A : Type 0} → (A → Tokens → Type 0) → List A → Tokens → Type 0
Longer R l ts = Then R (λ a. Then (Many R) (λ more. Nothing (a ∷ more))) l ts

pub shorter : (test : Token → Bool) (front rest ts : Tokens) (n : ℕ) → Begins test front → ts ≡ front ++ rest → length ts ≤ suc n → length rest ≤ n
shorter test [] rest ts n b is le = absurd b
shorter test (k ∷ front) rest ts n b is le = omega (arith, ap length is, length-append front rest)

module _ {A : Type 0} (d : ℕ) (test on_p : Token → Bool) (R : A → Tokens → Type 0) (p : Parser A) (P : Exact d d on_p R p) (first : (a : A) (x : Tokens) → R a x → Begins test x) where
  abbrev tail : ℕ → A → Parser (List A)
  tail n a = many_within n test p >>= (λ more. done (a ∷ more))

  enough_read : (n m : ℕ) (ts : Tokens) → length ts ≤ suc n → length ts ≤ suc m → (r : Read A) → Sound d d R p r ts → ((rest : Tokens) → length rest ≤ n → length rest ≤ m → many_within n test p rest ≡ many_within m test p rest) → read_then r (tail n) ≡ read_then r (tail m)
  enough_read n m ts x y (Got a rest) g h = ap (λ r. read_then r (λ more. done (a ∷ more))) (h rest (shorter test g.front rest ts n (first a g.front g.reads) g.is x) (shorter test g.front rest ts m (first a g.front g.reads) g.is y))
  enough_read n m ts x y (Off rest) g h = refl
  enough_read n m ts x y (Deep rest) g h = refl

  enough : (n m : ℕ) (ts : Tokens) → length ts ≤ n → length ts ≤ m → many_within n test p ts ≡ many_within m test p ts
  enough zero zero ts x y = refl
  enough zero (suc m) [] x y = refl
  enough zero (suc m) (k ∷ ts) x y = absurd (omega arith)
  enough (suc n) zero [] x y = refl
  enough (suc n) zero (k ∷ ts) x y = absurd (omega arith)
  enough (suc n) (suc m) ts x y = ap (λ r. if passes test ts then r else Got [] ts) (enough_read n m ts x y (p ts) (P.sound ts) (λ rest a b. enough n m rest a b))

  abbrev once : Parser (List A)
  once = choose test (p >>= (λ a. many test p >>= (λ more. done (a ∷ more)))) (done [])

  unrolled_read : (n : ℕ) (ts : Tokens) → length ts ≤ suc n → (r : Read A) → Sound d d R p r ts → read_then r (tail n) ≡ read_then r (λ a. many test p >>= (λ more. done (a ∷ more)))
  unfolding many
  unrolled_read n ts x (Got a rest) g = ap (λ r. read_then r (λ more. done (a ∷ more))) (enough n (length rest) rest (shorter test g.front rest ts n (first a g.front g.reads) g.is x) (omega arith))
  unrolled_read n ts x (Off rest) g = refl
  unrolled_read n ts x (Deep rest) g = refl

  unrolled_at : (ts : Tokens) (n : ℕ) → length ts ≡ n → many_within n test p ts ≡ once ts
  unrolled_at ts zero e = none ts e
    where
      none : (ts : Tokens) → length ts ≡ zero → Got [] ts ≡ once ts
      none [] e = refl
      none (k ∷ ts) e = absurd (omega (arith, e))
  unrolled_at ts (suc n) e = ap (λ r. if passes test ts then r else Got [] ts) (unrolled_read n ts (omega arith) (p ts) (P.sound ts))

  pub unrolled : (ts : Tokens) → many test p ts ≡ once ts
  unfolding many
  unrolled ts = unrolled_at ts (length ts) refl

  to_many : (l : List A) (ts : Tokens) → Either (Longer R) (Nothing []) l ts → Many R l ts
  to_many l ts (inl t) =
      let u = t.4 in
      subst (λ l. Many R l ts) (sym u.4.0) (t.1, u.1, t.3, u.3, t.5 ∙ ap (λ y. t.1 ++ y) (u.5 ∙ ap (λ y. u.1 ++ y) u.4.1 ∙ append-nil u.1))
  to_many l ts (inr t) = subst (λ l. Many R l ts) (sym t.0) t.1

  can_more : (a : A) (x : Tokens) → R a x → (l : List A) × (y : Tokens) × Then (Many R) (λ more. Nothing (a ∷ more)) l y
  can_more a x r = (a ∷ [], [], ([], [], [], refl, (refl, refl), refl))

  abbrev onward : A → Parser (List A)
  onward a = many test p >>= (λ more. done (a ∷ more))

  many_step : (ts : Tokens) → ((a : A) (mid : Tokens) → GotBy d d R p a mid ts → Sound d d (Many R) (many test p) (many test p mid) mid) → Sound d d (Many R) (many test p) (many test p ts) ts
  many_step ts h =
      subst (λ r. Sound d d (Many R) (many test p) r ts) (sym (unrolled ts))
      (sound_by d d (Either (Longer R) (Nothing [])) (Many R) once (many test p) ts to_many (λ front rest other e same. unrolled (front ++ other)) (once ts)
      (choose_sound d d test (Longer R) (Nothing []) (p >>= onward) (done []) ts
      (then_sound d d d R (λ a. Then (Many R) (λ more. Nothing (a ∷ more))) p onward can_more ts (p ts) (P.sound ts)
      (λ a mid g. then_sound d d d (Many R) (λ more. Nothing (a ∷ more)) (many test p) (λ more. done (a ∷ more)) (λ more x r. (a ∷ more, [], (refl, refl))) mid (many test p mid) (h a mid g) (λ more last g2. (done_exact d nowhere (a ∷ more)).sound last)))
      ((done_exact d nowhere []).sound ts)))

  many_sound_within : (n : ℕ) (ts : Tokens) → length ts ≤ n → Sound d d (Many R) (many test p) (many test p ts) ts
  many_sound_within zero ts le = many_step ts (λ a mid g. absurd (empty g.front ts mid (first a g.front g.reads) g.is le))
    where
      empty : (front ts rest : Tokens) → Begins test front → ts ≡ front ++ rest → length ts ≤ zero → ⊥
      empty [] ts rest b is le = b
      empty (k ∷ front) ts rest b is le = omega (arith, ap length is, length-append front rest)
  many_sound_within (suc n) ts le = many_step ts (λ a mid g. many_sound_within n mid (shorter test g.front mid ts n (first a g.front g.reads) g.is le))

  module _ (on : Token → Bool) (on_test : (rest : Tokens) → Stops on rest → Stops test rest) (on_less : (rest : Tokens) → Stops on rest → Stops on_p rest) (apart : (k : Token) → test k ≡ true → on_p k ≡ false) where
    item_stops : (l : List A) (y rest : Tokens) → Many R l y → Stops on rest → Stops on_p (y ++ rest)
    item_stops [] y rest m stops = subst (λ y. Stops on_p (y ++ rest)) (sym m) (on_less rest stops)
    item_stops (a ∷ more) y rest m stops = subst (λ y. Stops on_p (y ++ rest)) (sym m.4) (begun m.0 (first a m.0 m.2))
      where
        begun : (x : Tokens) → Begins test x → Stops on_p ((x ++ m.1) ++ rest)
        begun [] b = absurd b
        begun (k ∷ x) b = apart k b

    many_whole : (l : List A) (front rest : Tokens) → Many R l front → Stops on rest → Succeeds l rest (many test p (front ++ rest))
    many_whole [] front rest m stops =
        let e : many test p (front ++ rest) ≡ Got [] rest = ap (λ x. many test p (x ++ rest)) m ∙ unrolled rest ∙ ap (λ b. if b then (p >>= onward) rest else Got [] rest) (stops_passes test rest (on_test rest stops)) in
        subst (λ r. Succeeds [] rest r) (sym e) (refl, refl)
    many_whole (a ∷ more) front rest m stops =
        let x = m.0 in let y = m.1 in
        let e : many test p (front ++ rest) ≡ (p >>= onward) (x ++ (y ++ rest)) =
        ap (λ z. many test p (z ++ rest)) m.4 ∙ ap (many test p) (append_assoc x y rest) ∙ unrolled (x ++ (y ++ rest)) ∙ ap (λ b. if b then (p >>= onward) (x ++ (y ++ rest)) else Got [] (x ++ (y ++ rest))) (begins_passes test x (y ++ rest) (first a x m.2)) in
        let s : Succeeds a (y ++ rest) (p (x ++ (y ++ rest))) = P.whole a x (y ++ rest) m.2 (item_stops more y rest m.3 stops) in
        let u : Succeeds (a ∷ more) rest (onward a (y ++ rest)) = then_succeeds (λ more. done (a ∷ more)) more (a ∷ more) rest rest (many test p (y ++ rest)) (many_whole more y rest m.3 stops) (refl, refl) in
        subst (λ r. Succeeds (a ∷ more) rest r) (sym e) (then_succeeds onward a (a ∷ more) (y ++ rest) rest (p (x ++ (y ++ rest))) s u)

    pub many_exact : Exact d d on (Many R) (many test p)
    many_exact = record {
      can = ([], [], refl);
      sound = λ ts. many_sound_within (length ts) ts (omega arith);
      whole = many_whole;
    }
