-- A list of tokens leaves a grammar at one place, and at most one of P1 and P2 counts.
use Rattle.std.proofs.Common.{◌≡◌, [], ◌∷◌, ◌++◌, refl, sym, subst, ap, ◌∙◌, arith}
use Rattle.std.proofs.lemmas.List.{append_assoc}
use Rattle.hv_tree.specs.declared.token.Token.{Token}
use Rattle.hv_tree.specs.Tokens.{Tokens}
use Rattle.hv_tree.specs.Refusal.{CanGoOn, NotWith, LeavesAt, CountsAsP1, CountsAsP2}

-- the second front is longer by at least one token, which the first rest begins with
record Longer (b r c s : Tokens) : Type 0 where
  next : Token
  more : Tokens
  front : c ≡ b ++ next ∷ more
  rest : r ≡ next ∷ (more ++ s)

data Fronts (b r c s : Tokens) : Type 0 where
  same : b ≡ c → Fronts b r c s
  second : Longer b r c s → Fronts b r c s
  first : Longer c s b r → Fronts b r c s

-- one token more at both fronts
longer_by : (k : Token) (b r c s : Tokens) → Longer b r c s → Longer (k ∷ b) r (k ∷ c) s
longer_by k b r c s l = record { next = l.next; more = l.more; front = ap (λ (t : Tokens). k ∷ t) l.front; rest = l.rest }

fronts_by : (k : Token) (b r c s : Tokens) → Fronts b r c s → Fronts (k ∷ b) r (k ∷ c) s
fronts_by k b r c s (same e) = same (ap (λ (t : Tokens). k ∷ t) e)
fronts_by k b r c s (second l) = second (longer_by k b r c s l)
fronts_by k b r c s (first l) = first (longer_by k c s b r l)

fronts : (b r c s : Tokens) → b ++ r ≡ c ++ s → Fronts b r c s
fronts [] r [] s e = same refl
fronts [] r (k ∷ c) s e = second (record { next = k; more = c; front = refl; rest = e })
fronts (k ∷ b) r [] s e = first (record { next = k; more = b; front = refl; rest = sym e })
fronts (k ∷ b) r (j ∷ c) s e =
    let h : k ≡ j = cc in
    let t : b ++ r ≡ c ++ s = cc in
    subst (λ (i : Token). Fronts (k ∷ b) r (i ∷ c) s) h (fronts_by k b r c s (fronts b r c s t))

module _ {A : Type 0} (R : A → Tokens → Type 0) where
  shorter : (a b c : Tokens) (k : Token) → c ≡ a ++ k ∷ b → CanGoOn R c → CanGoOn R (a ++ k ∷ [])
  shorter a b c k e g = (g.0, b ++ g.1, subst (R g.0) (ap (λ (t : Tokens). t ++ g.1) e ∙ append_assoc a (k ∷ b) g.1 ∙ sym (append_assoc a (k ∷ []) (b ++ g.1))) g.2)

  not_longer : (ts b r c s : Tokens) → LeavesAt R ts b r → LeavesAt R ts c s → Longer b r c s → ⊥
  not_longer ts b r c s x y l = let stop : NotWith R b (l.next ∷ (l.more ++ s)) = subst (NotWith R b) l.rest x.stops in stop (shorter b l.more c l.next l.front y.goes_on)

  decided : (ts b r c s : Tokens) → LeavesAt R ts b r → LeavesAt R ts c s → Fronts b r c s → b ≡ c
  decided ts b r c s x y (same e) = e
  decided ts b r c s x y (second l) = absurd (not_longer ts b r c s x y l)
  decided ts b r c s x y (first l) = absurd (not_longer ts c s b r y x l)

  pub leaves_once : (ts b r c s : Tokens) → LeavesAt R ts b r → LeavesAt R ts c s → b ≡ c
  leaves_once ts b r c s x y = decided ts b r c s x y (fronts b r c s (sym x.is ∙ y.is))

pub counts_once : (ts b r c s : Tokens) → CountsAsP1 ts b r → CountsAsP2 ts c s → ⊥
counts_once ts b r c s x y = absurd (omega (arith, x.earlier c s y.violated, y.earlier b r x.violated))
