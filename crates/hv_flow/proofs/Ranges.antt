-- Where the places of a flow lie.
use Rattle.std.proofs.Common.{◌≡◌, inl, inr, ℕ, ◌+◌, ◌<◌, ◌≤◌, arith}
use Rattle.hv_rules.specs.Flow.{Flow, Skip, Do, Stop, Then, Either, Loop}
use Rattle.hv_flow.specs.Positions.{places, At, First, Last, Final, Next}

pub record In (k n i : ℕ) : Type 0 where
  pub low : k ≤ i
  pub high : i < k + n

within_left : {k m i : ℕ} (n : ℕ) → In k m i → In k (m + n) i
within_left n h = record { low = h.low; high = omega (arith, h.high) }

within_right : {k n i : ℕ} (m : ℕ) → In (k + m) n i → In k (m + n) i
within_right m h = record { low = omega (arith, h.low); high = omega (arith, h.high) }

alone : {k i : ℕ} → i ≡ k → In k 1 i
alone h = record { low = omega (arith, h); high = omega (arith, h) }

pub at_in : {E : Type 0} (k : ℕ) (f : Flow E) (i : ℕ) (x : E) → At k f i x → In k (places f) i
at_in k Skip i x h = absurd h
at_in k (Do e) i x h = alone h.0
at_in k (Stop e) i x h = alone h.0
at_in k (Then a b) i x (inl h) = within_left (places b) (at_in k a i x h)
at_in k (Then a b) i x (inr h) = within_right (places a) (at_in (k + places a) b i x h)
at_in k (Either a b) i x (inl h) = within_left (places b) (at_in k a i x h)
at_in k (Either a b) i x (inr h) = within_right (places a) (at_in (k + places a) b i x h)
at_in k (Loop a) i x h = at_in k a i x h

pub first_in : {E : Type 0} (k : ℕ) (f : Flow E) (i : ℕ) → First k f i → In k (places f) i
first_in k Skip i h = absurd h
first_in k (Do e) i h = alone h
first_in k (Stop e) i h = alone h
first_in k (Then a b) i (inl h) = within_left (places b) (first_in k a i h)
first_in k (Then a b) i (inr h) = within_right (places a) (first_in (k + places a) b i h.1)
first_in k (Either a b) i (inl h) = within_left (places b) (first_in k a i h)
first_in k (Either a b) i (inr h) = within_right (places a) (first_in (k + places a) b i h)
first_in k (Loop a) i h = first_in k a i h

pub last_in : {E : Type 0} (k : ℕ) (f : Flow E) (i : ℕ) → Last k f i → In k (places f) i
last_in k Skip i h = absurd h
last_in k (Do e) i h = alone h
last_in k (Stop e) i h = absurd h
last_in k (Then a b) i (inl h) = within_right (places a) (last_in (k + places a) b i h)
last_in k (Then a b) i (inr h) = within_left (places b) (last_in k a i h.1)
last_in k (Either a b) i (inl h) = within_left (places b) (last_in k a i h)
last_in k (Either a b) i (inr h) = within_right (places a) (last_in (k + places a) b i h)
last_in k (Loop a) i h = last_in k a i h

pub final_in : {E : Type 0} (k : ℕ) (f : Flow E) (i : ℕ) → Final k f i → In k (places f) i
final_in k Skip i h = absurd h
final_in k (Do e) i h = absurd h
final_in k (Stop e) i h = alone h
final_in k (Then a b) i (inl h) = within_left (places b) (final_in k a i h)
final_in k (Then a b) i (inr h) = within_right (places a) (final_in (k + places a) b i h)
final_in k (Either a b) i (inl h) = within_left (places b) (final_in k a i h)
final_in k (Either a b) i (inr h) = within_right (places a) (final_in (k + places a) b i h)
final_in k (Loop a) i h = final_in k a i h

pub record BothIn (k n i j : ℕ) : Type 0 where
  pub one : In k n i
  pub two : In k n j

pub next_in : {E : Type 0} (k : ℕ) (f : Flow E) (i j : ℕ) → Next k f i j → BothIn k (places f) i j
next_in k Skip i j h = absurd h
next_in k (Do e) i j h = absurd h
next_in k (Stop e) i j h = absurd h
next_in k (Then a b) i j (inl h) = let p = next_in k a i j h in record { one = within_left (places b) p.one; two = within_left (places b) p.two }
next_in k (Then a b) i j (inr (inl h)) = let p = next_in (k + places a) b i j h in record { one = within_right (places a) p.one; two = within_right (places a) p.two }
next_in k (Then a b) i j (inr (inr h)) = record { one = within_left (places b) (last_in k a i h.0); two = within_right (places a) (first_in (k + places a) b j h.1) }
next_in k (Either a b) i j (inl h) = let p = next_in k a i j h in record { one = within_left (places b) p.one; two = within_left (places b) p.two }
next_in k (Either a b) i j (inr h) = let p = next_in (k + places a) b i j h in record { one = within_right (places a) p.one; two = within_right (places a) p.two }
next_in k (Loop a) i j (inl h) = next_in k a i j h
next_in k (Loop a) i j (inr h) = record { one = last_in k a i h.0; two = first_in k a j h.1 }
