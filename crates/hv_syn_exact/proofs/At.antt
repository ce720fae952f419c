-- The steps of a parser where what goes on after a value depends on the value.
use Rattle.std.proofs.Common.{◌≡◌, ℕ, Bool, true, [], ◌∷◌, ◌++◌, Some, inl, inr, refl, sym, ◌∙◌, ap, subst, append_assoc}
use Rattle.std.specs.Prelude.{if◌then◌else◌}
use Rattle.hv_tree.specs.declared.token.Token.{Token}
use Rattle.hv_tree.specs.Tokens.{Tokens}
use Rattle.hv_syn_grammar.specs.Parser.{Read, Parser, ◌>>=◌, read_then, done, take, choose}
use Rattle.hv_syn_grammar.specs.Room.{room}
use Rattle.hv_syn_grammar.specs.Lexemes.{expect}
use Rattle.hv_syn_exact.proofs.Exact.{Exact, Sound, Stops, Begins, Succeeds, Then, Either, One, then_sound, then_succeeds, sound_by, choose_sound, take_exact, stops_passes, nowhere, never}
use Rattle.hv_syn_exact.proofs.Lexemes.{Lexeme, After, to_after, from_after, regroup}
use Rattle.hv_syn_exact.proofs.Until.{ExactAt}

pub at_each : {A : Type 0} (d f : ℕ) (on : Token → Bool) (R : A → Tokens → Type 0) (p : Parser A) → Exact d f on R p → ExactAt d f (λ a. on) R p
at_each d f on R p P = record { sound = P.sound; whole = P.whole; can = P.can }

pub less_at : {A : Type 0} (d f : ℕ) (on on' : A → Token → Bool) (R : A → Tokens → Type 0) (p : Parser A) → ExactAt d f on R p → ((a : A) (x : Tokens) → R a x → (rest : Tokens) → Stops (on' a) rest → Stops (on a) rest) → ExactAt d f on' R p
less_at d f on on' R p P less = record { sound = P.sound; can = P.can; whole = λ a front rest r stops. P.whole a front rest r (less a front r rest stops) }

pub then_at : {A B : Type 0} (d e f : ℕ) (on : Token → Bool) (on' : B → Token → Bool) (R : A → Tokens → Type 0) (S : A → B → Tokens → Type 0) (p : Parser A) (q : A → Parser B) →
    Exact d e on R p → ((a : A) → ExactAt e f on' (S a) (q a)) →
    ((a : A) (b : B) (y rest : Tokens) → S a b y → Stops (on' b) rest → Stops on (y ++ rest)) →
    ExactAt d f on' (Then R S) (p >>= q)
then_at d e f on on' R S p q P Q follows = record {
  can = let c = P.can in let h = (Q c.0).can in (h.0, c.1 ++ h.1, (c.0, c.1, h.1, c.2, h.2, refl));
  sound = λ ts. then_sound d e f R S p q (λ a x r. (Q a).can) ts (p ts) (P.sound ts) (λ a mid g. (Q a).sound mid);
  whole = λ b front rest (t : Then R S b front) stops.
      let a = t.0 in let x = t.1 in let y = t.2 in
      let s : Succeeds a (y ++ rest) (p (x ++ (y ++ rest))) = P.whole a x (y ++ rest) t.3 (follows a b y rest t.4 stops) in
      let s' : Succeeds a (y ++ rest) (p (front ++ rest)) = subst (λ l. Succeeds a (y ++ rest) (p l)) (sym (append_assoc x y rest) ∙ ap (λ l. l ++ rest) (sym t.5)) s in
      then_succeeds q a b (y ++ rest) rest (p (front ++ rest)) s' ((Q a).whole b y rest t.4 stops);
}

pub by_at : {A : Type 0} (d f : ℕ) (on : A → Token → Bool) (R S : A → Tokens → Type 0) (p q : Parser A) → ((ts : Tokens) → q ts ≡ p ts) → ExactAt d f on R p → ((a : A) (x : Tokens) → R a x → S a x) → ((a : A) (x : Tokens) → S a x → R a x) → ExactAt d f on S q
by_at d f on R S p q same P to from = record {
  can = (P.can.0, P.can.1, to P.can.0 P.can.1 P.can.2);
  sound = λ ts. subst (λ r. Sound d f S q r ts) (sym (same ts)) (sound_by d f R S p q ts to (λ front rest other e s. same (front ++ other)) (p ts) (P.sound ts));
  whole = λ a front rest s stops. subst (Succeeds a rest) (sym (same (front ++ rest))) (P.whole a front rest (from a front s) stops);
}

pub choose_at : {A : Type 0} (d f : ℕ) (test : Token → Bool) (R S : A → Tokens → Type 0) (p q : Parser A) (on on_p on_q : A → Token → Bool) → ExactAt d f on_p R p → ExactAt d f on_q S q →
    ((a : A) (x rest : Tokens) → R a x → Stops (on a) rest → Begins test (x ++ rest)) →
    ((a : A) (x rest : Tokens) → S a x → Stops (on a) rest → Stops test (x ++ rest)) →
    ((a : A) (x : Tokens) → R a x → (rest : Tokens) → Stops (on a) rest → Stops (on_p a) rest) →
    ((a : A) (x : Tokens) → S a x → (rest : Tokens) → Stops (on a) rest → Stops (on_q a) rest) →
    ExactAt d f on (Either R S) (choose test p q)
choose_at d f test R S p q on on_p on_q P Q first other less_p less_q = record {
  can = (P.can.0, P.can.1, inl P.can.2);
  sound = λ ts. choose_sound d f test R S p q ts (P.sound ts) (Q.sound ts);
  whole = choose_whole;
}
  where
    choose_whole : (a : _) (front rest : Tokens) → Either R S a front → Stops (on a) rest → Succeeds a rest (choose test p q (front ++ rest))
    choose_whole a front rest (inl r) stops =
        subst (λ b. Succeeds a rest (if b then p (front ++ rest) else q (front ++ rest))) (sym (passed (front ++ rest) (first a front rest r stops))) (P.whole a front rest r (less_p a front r rest stops))
      where
        passed : (ts : Tokens) → Begins test ts → Rattle.hv_syn_grammar.specs.Parser.passes test ts ≡ true
        passed [] b = absurd b
        passed (k ∷ ts) b = b
    choose_whole a front rest (inr s) stops =
        subst (λ b. Succeeds a rest (if b then p (front ++ rest) else q (front ++ rest))) (sym (stops_passes test (front ++ rest) (other a front rest s stops))) (Q.whole a front rest s (less_q a front s rest stops))

pub next_at : {V B : Type 0} (spell : V → Token) (test : Token → Bool) (get : Token → V) (l : Lexeme spell test get) (S : V → B → Tokens → Type 0) (q : V → Parser B) (d e f : ℕ) (on : B → Token → Bool) → ((v : V) → room d (spell v ∷ []) ≡ Some e) → ((v : V) → ExactAt e f on (S v) (q v)) → ExactAt d f on (After spell S) (expect test get >>= q)
unfolding expect
next_at spell test get l S q d e f on moves Q =
    by_at d f on (Then (One test) (λ k. S (get k))) (After spell S) (take test >>= (λ k. q (get k))) (expect test get >>= q) (λ ts. regroup spell test get l S q (take test ts))
    (then_at d e f nowhere on (One test) (λ k. S (get k)) (take test) (λ k. q (get k))
    (take_exact d e test (spell l.some) (l.passed l.some) (λ k passed. ap (λ k. room d (k ∷ [])) (l.known k passed) ∙ moves (get k)) nowhere)
    (λ k. Q (get k)) (λ k b y rest s stops. never (y ++ rest)))
    (to_after spell test get l S) (from_after spell test get l S)
