-- A value that is made of what was read.
use Rattle.std.proofs.Common.{◌≡◌, ℕ, Bool, [], ◌++◌, refl, sym, ◌∙◌, ap, subst, append-nil}
use Rattle.hv_tree.specs.declared.token.Token.{Token}
use Rattle.hv_tree.specs.Tokens.{Tokens}
use Rattle.hv_syn_grammar.specs.Parser.{Parser, ◌>>=◌, done}
use Rattle.hv_syn_exact.proofs.Exact.{Exact, Then, Nothing, then_exact, done_exact, exact_by}
use Rattle.hv_syn_exact.proofs.Shorts.{empty_stops}

abbrev pub Mapped : {A B : Type 0} → (A → B) → (A → Tokens → Type 0) → B → Tokens → Type 0
Mapped f R b ts = (a : _) × R a ts × (b ≡ f a)

pub mapped_exact : {A B : Type 0} (d e : ℕ) (on : Token → Bool) (f : A → B) (R : A → Tokens → Type 0) (p : Parser A) → Exact d e on R p → Exact d e on (Mapped f R) (p >>= (λ a. done (f a)))
mapped_exact {A} {B} d e on f R p P =
    exact_by d e on (Then R (λ a. Nothing (f a))) (Mapped f R) (p >>= (λ a. done (f a)))
    (then_exact d e e on on R (λ a. Nothing (f a)) p (λ a. done (f a)) P (λ a. done_exact e on (f a)) (λ a b y rest n s. empty_stops on y rest n.1 s))
    to from
  where
    to : (b : B) (ts : Tokens) → Then R (λ a. Nothing (f a)) b ts → Mapped f R b ts
    to b ts t = (t.0, subst (R t.0) (sym (t.5 ∙ ap (λ z. t.1 ++ z) t.4.1 ∙ append-nil t.1)) t.3, t.4.0)

    from : (b : B) (ts : Tokens) → Mapped f R b ts → Then R (λ a. Nothing (f a)) b ts
    from b ts m = (m.0, ts, [], m.1, (m.2, refl), sym (append-nil ts))
