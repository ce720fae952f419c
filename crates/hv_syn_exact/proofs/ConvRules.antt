-- Conventions and types are read exactly.
use Rattle.std.proofs.Common.{◌≡◌, ℕ, Bool, true, false, ◌||◌, List, [], ◌∷◌, ◌++◌, inl, inr, refl, ◌∙◌, ap}
use Rattle.std.specs.Prelude.{codes}
use Rattle.hv_tree.specs.declared.place.Place.{Place}
use Rattle.hv_tree.specs.declared.token.Token.{Token}
use Rattle.hv_tree.specs.declared.types.Conv.{Conv}
use Rattle.hv_tree.specs.declared.types.Conv.TheVariants as conv
use Rattle.hv_tree.specs.Tokens.{Tokens, keyword, IsConv, no_conv, let_conv, inout_conv, sink_conv, set_conv}
use Rattle.hv_syn_grammar.specs.Parser.{done, choose}
use Rattle.hv_syn_grammar.specs.Lexemes.{is_keyword}
use Rattle.hv_syn_grammar.specs.Signatures as s
use Rattle.hv_syn_grammar.specs.Signatures.{InnerTypes, begins_conv, begins_result, begins_type, begins_conv_type, inner_types}
use Rattle.hv_syn_exact.proofs.Exact.{Exact, Stops, Begins, Either, Nothing, done_exact, choose_exact, exact_by, nowhere, never}
use Rattle.hv_syn_exact.proofs.Lexemes.{After, a_keyword, next_exact}
use Rattle.hv_syn_exact.proofs.Shorts.{off_at, on_at, empty_stops, stops_left, stops_right}

-- ---- conventions

unfoldable OneConv : List ℕ → Conv → Conv → Tokens → Type 0
OneConv spelling c = After (keyword spelling) (λ at. Nothing c)

abbrev Convention : Conv → Tokens → Type 0
Convention = Either (OneConv (codes "let") conv.Let) (Either (OneConv (codes "inout") conv.Inout) (Either (OneConv (codes "sink") conv.Sink) (Either (OneConv (codes "set") conv.Set) (Nothing conv.Let))))

to_conv : (c : Conv) (ts : Tokens) → Convention c ts → IsConv c ts
unfolding OneConv
to_conv c ts (inl a) = let_conv a.0 a.2.0 (a.3 ∙ ap (λ y. keyword (codes "let") a.0 ∷ y) a.2.1)
to_conv c ts (inr (inl a)) = inout_conv a.0 a.2.0 (a.3 ∙ ap (λ y. keyword (codes "inout") a.0 ∷ y) a.2.1)
to_conv c ts (inr (inr (inl a))) = sink_conv a.0 a.2.0 (a.3 ∙ ap (λ y. keyword (codes "sink") a.0 ∷ y) a.2.1)
to_conv c ts (inr (inr (inr (inl a)))) = set_conv a.0 a.2.0 (a.3 ∙ ap (λ y. keyword (codes "set") a.0 ∷ y) a.2.1)
to_conv c ts (inr (inr (inr (inr n)))) = no_conv n.0 n.1

from_conv : (c : Conv) (ts : Tokens) → IsConv c ts → Convention c ts
unfolding OneConv
from_conv c ts (no_conv e e') = inr (inr (inr (inr (e, e'))))
from_conv c ts (let_conv at e e') = inl (at, [], (e, refl), e')
from_conv c ts (inout_conv at e e') = inr (inl (at, [], (e, refl), e'))
from_conv c ts (sink_conv at e e') = inr (inr (inl (at, [], (e, refl), e')))
from_conv c ts (set_conv at e e') = inr (inr (inr (inl (at, [], (e, refl), e'))))

one_conv_exact : (d : ℕ) (spelling : List ℕ) (c : Conv) → Exact d d nowhere (OneConv spelling c) (s.one_conv spelling c)
unfolding OneConv
one_conv_exact d spelling c = next_exact _ _ _ (a_keyword spelling) _ _ d d d nowhere (λ v. refl) (λ at. done_exact d nowhere c)

one_conv_begins : (spelling : List ℕ) (c x : Conv) (test : Token → Bool) → ((at : Place) → test (keyword spelling at) ≡ true) → (ts : Tokens) → OneConv spelling c x ts → Begins test ts
unfolding OneConv
one_conv_begins spelling c x test e ts a = on_at test _ ts a.1 a.3 (e a.0)

one_conv_stops : (spelling : List ℕ) (c x : Conv) (test : Token → Bool) → ((at : Place) → test (keyword spelling at) ≡ false) → (ts rest : Tokens) → OneConv spelling c x ts → Stops test (ts ++ rest)
unfolding OneConv
one_conv_stops spelling c x test e ts rest a = off_at test _ ts a.1 rest a.3 (e a.0)

abbrev on_set : Token → Bool
on_set = is_keyword (codes "set")

abbrev on_sink : Token → Bool
on_sink k = is_keyword (codes "sink") k || on_set k

abbrev on_inout : Token → Bool
on_inout k = is_keyword (codes "inout") k || on_sink k

set_exact : (d : ℕ) → Exact d d on_set (Either (OneConv (codes "set") conv.Set) (Nothing conv.Let)) (choose (is_keyword (codes "set")) (s.one_conv (codes "set") conv.Set) (done conv.Let))
set_exact d =
    choose_exact d d (is_keyword (codes "set")) _ _ _ _ on_set nowhere nowhere (one_conv_exact d (codes "set") conv.Set) (done_exact d nowhere conv.Let)
    (λ x ts a. one_conv_begins (codes "set") conv.Set x (is_keyword (codes "set")) (λ at. refl) ts a)
    (λ x ts rest n h. empty_stops (is_keyword (codes "set")) ts rest n.1 h) (λ rest h. never rest) (λ rest h. never rest)

sink_exact : (d : ℕ) → Exact d d on_sink (Either (OneConv (codes "sink") conv.Sink) (Either (OneConv (codes "set") conv.Set) (Nothing conv.Let))) (choose (is_keyword (codes "sink")) (s.one_conv (codes "sink") conv.Sink) (choose (is_keyword (codes "set")) (s.one_conv (codes "set") conv.Set) (done conv.Let)))
sink_exact d =
    choose_exact d d (is_keyword (codes "sink")) _ _ _ _ on_sink nowhere on_set (one_conv_exact d (codes "sink") conv.Sink) (set_exact d)
    (λ x ts a. one_conv_begins (codes "sink") conv.Sink x (is_keyword (codes "sink")) (λ at. refl) ts a)
    other (λ rest h. never rest) (λ rest h. stops_right (is_keyword (codes "sink")) on_set rest h)
  where
    other : (x : Conv) (ts rest : Tokens) → Either (OneConv (codes "set") conv.Set) (Nothing conv.Let) x ts → Stops on_sink rest → Stops (is_keyword (codes "sink")) (ts ++ rest)
    other x ts rest (inl a) h = one_conv_stops (codes "set") conv.Set x (is_keyword (codes "sink")) (λ at. refl) ts rest a
    other x ts rest (inr n) h = empty_stops (is_keyword (codes "sink")) ts rest n.1 (stops_left (is_keyword (codes "sink")) on_set rest h)

inout_exact : (d : ℕ) → Exact d d on_inout (Either (OneConv (codes "inout") conv.Inout) (Either (OneConv (codes "sink") conv.Sink) (Either (OneConv (codes "set") conv.Set) (Nothing conv.Let)))) (choose (is_keyword (codes "inout")) (s.one_conv (codes "inout") conv.Inout) (choose (is_keyword (codes "sink")) (s.one_conv (codes "sink") conv.Sink) (choose (is_keyword (codes "set")) (s.one_conv (codes "set") conv.Set) (done conv.Let))))
inout_exact d =
    choose_exact d d (is_keyword (codes "inout")) _ _ _ _ on_inout nowhere on_sink (one_conv_exact d (codes "inout") conv.Inout) (sink_exact d)
    (λ x ts a. one_conv_begins (codes "inout") conv.Inout x (is_keyword (codes "inout")) (λ at. refl) ts a)
    other (λ rest h. never rest) (λ rest h. stops_right (is_keyword (codes "inout")) on_sink rest h)
  where
    other : (x : Conv) (ts rest : Tokens) → Either (OneConv (codes "sink") conv.Sink) (Either (OneConv (codes "set") conv.Set) (Nothing conv.Let)) x ts → Stops on_inout rest → Stops (is_keyword (codes "inout")) (ts ++ rest)
    other x ts rest (inl a) h = one_conv_stops (codes "sink") conv.Sink x (is_keyword (codes "inout")) (λ at. refl) ts rest a
    other x ts rest (inr (inl a)) h = one_conv_stops (codes "set") conv.Set x (is_keyword (codes "inout")) (λ at. refl) ts rest a
    other x ts rest (inr (inr n)) h = empty_stops (is_keyword (codes "inout")) ts rest n.1 (stops_left (is_keyword (codes "inout")) on_sink rest h)

pub conv_exact : (d : ℕ) → Exact d d begins_conv IsConv s.convention
unfolding s.convention
conv_exact d =
    exact_by d d begins_conv Convention IsConv _
    (choose_exact d d (is_keyword (codes "let")) _ _ _ _ begins_conv nowhere on_inout (one_conv_exact d (codes "let") conv.Let) (inout_exact d)
    (λ x ts a. one_conv_begins (codes "let") conv.Let x (is_keyword (codes "let")) (λ at. refl) ts a)
    other (λ rest h. never rest) (λ rest h. stops_right (is_keyword (codes "let")) on_inout rest h))
    to_conv from_conv
  where
    other : (x : Conv) (ts rest : Tokens) → Either (OneConv (codes "inout") conv.Inout) (Either (OneConv (codes "sink") conv.Sink) (Either (OneConv (codes "set") conv.Set) (Nothing conv.Let))) x ts → Stops begins_conv rest → Stops (is_keyword (codes "let")) (ts ++ rest)
    other x ts rest (inl a) h = one_conv_stops (codes "inout") conv.Inout x (is_keyword (codes "let")) (λ at. refl) ts rest a
    other x ts rest (inr (inl a)) h = one_conv_stops (codes "sink") conv.Sink x (is_keyword (codes "let")) (λ at. refl) ts rest a
    other x ts rest (inr (inr (inl a))) h = one_conv_stops (codes "set") conv.Set x (is_keyword (codes "let")) (λ at. refl) ts rest a
    other x ts rest (inr (inr (inr n))) h = empty_stops (is_keyword (codes "let")) ts rest n.1 (stops_left (is_keyword (codes "let")) on_inout rest h)
