-- The steps by which a party comes to its cell keep the rule of the cell table.
use Rattle.std.proofs.Common.{◌≡◌, ℕ, ◌*◌, ◌<◌, ◌⊎◌, inl, inr, Bool, true, false, List, [], ◌∷◌, length, get_or, set, sym, refl, ap, ◌∙◌, subst, ⊎_elim, arith, length-set, get_or-set_same, get_or-set_other}
use Rattle.std.specs.Prelude.{not}
use lib.Bits.{bit_or}
use mathlib.Core.Option as maybe
use mathlib.Core.Option.{none, some, some-injective}
use lib.ListN.{get_elem?}
use Rattle.atomic_table.specs.Table.{State, Me, Act, Valid, stepped, carried_after, takes, gives, chain, Allows}
use Rattle.atomic_table.specs.Seated.{TableId}
use Rattle.atomic_table.proofs.Lists.{set_here, set_else}
use Rattle.hv_cell.specs.declared.cell_view.Role.TheVariants.{Free, Party, Claim}
use Rattle.hv_cell.specs.declared.cell_view.View.{View}
use Rattle.hv_cell.specs.CellRule.{slot_of, bit_of, Coming, coming, Row, unmade, free, paired, half, claimed, view, spent, slot_of_coming, CellOk, Comes, Seated, HasParty, Kept}
use Rattle.hv_cell.specs.CellPlays.{took, came, reset}
use Rattle.hv_cell.proofs.Lists.{below, read_only}
use Rattle.hv_cell.proofs.Sides.{put_here, set_side, side_here, side_else, both_sides, not_not, other_side, slots_apart, sides_apart, or_first, or_last}
use Rattle.hv_cell.proofs.Moves.{moves_one}

module _ {X K : Type 0} (nothing : X) (Put : Bool → List ℕ → K → TableId → X → Type 0) where
  module _ (k : K) where
    -- a cell with a party to come has both to come, or this one alone
    party_row : (z : TableId) (j : ℕ) (s h : Bool) (i : List ℕ) (row : Row) → HasParty nothing Put k z j s h i row → ((parties : Bool → Coming) × (row ≡ paired parties i) × (parties s ≡ coming j h)) ⊎ (row ≡ half s (coming j h) i)
    party_row z j s h i unmade x = absurd x
    party_row z j s h i (free l) x = absurd x
    party_row z j s h i (paired parties o) x = inl (parties, ap (paired parties) x.1, x.0)
    party_row z j s h i (half t party o) x = inr (λ l. half (x.0 l) (x.1 l) (x.2 l))
    party_row z j s h i (claimed l o) x = absurd x

    -- the other party's seat is another one
    other_seated : (views : List (View K)) (z : TableId) (id c : ℕ) (p h : Bool) (i : List ℕ) (w : View K) → get_elem? views id ≡ some (view (Party p h) c i k z) → (q : Coming) → Comes nothing Put k z views c (not p) i q → Comes nothing Put k z (set views id w) c (not p) i q
    other_seated views z id c p h i w at (coming j h') x = set_else views id j w (λ e. let f : Party p h ≡ Party (not p) h' = ap (λ (y : View K). y.role) (some-injective _ _ (sym at ∙ (ap (get_elem? views) (sym e) ∙ x))) in other_side p (cc)) ∙ x

    -- a party takes its slot in hand while the other one is to come
    takes_paired : (s : State X (View K)) (r : Kept nothing Put k s) (id c : ℕ) (p : Bool) (i : List ℕ) → get_elem? s.views id ≡ some (view (Party p false) c i k r.table) → c < length s.words
        → (parties : Bool → Coming) → r.cells c ≡ paired parties i → parties p ≡ coming id false
        → (get_elem? s.homes (slot_of c p) ≡ some (some nothing)) × Kept nothing Put k record { words = s.words; homes = set s.homes (slot_of c p) none; views = set s.views id (view (Party p true) c i k r.table) }
    takes_paired s r id c p i at lt parties was mine = let z = r.table in let v : View K = view (Party p false) c i k z in let w : View K = view (Party p true) c i k z in
        let parties' : Bool → Coming = set_side p (coming id true) parties in let row' : Row = paired parties' i in let here' = side_here p (coming id true) parties in let else' = side_else p (coming id true) parties in
        let slot : Coming → maybe.Option (maybe.Option X) = slot_of_coming nothing Put k z in
        let ok = subst (CellOk nothing Put k z (get_or s.words c 0) (λ b. get_elem? s.homes (slot_of c b))) was (r.each_cell c lt) in
        let seats = subst (Seated nothing Put k z s.views c) was (r.each_seat c) in
        let home : get_elem? s.homes (slot_of c p) ≡ some (some nothing) = ok.1 p ∙ ap slot mine in
        let hs : List (maybe.Option X) = set s.homes (slot_of c p) none in let vs : List (View K) = set s.views id w in (
          home,
          moves_one nothing Put k s r id v w row' s.words hs at (λ e. cc)
              record { frees = λ j n e. absurd (cc); claims = λ j i n e. absurd (cc) }
              (λ j b h l n x. let y = subst (HasParty nothing Put k z j b h l) was x in (both_sides p (λ b. parties b ≡ coming j h → parties' b ≡ coming j h) (λ e. absurd (n (let f = mine in cc))) (λ e. else' ∙ e) b y.0, y.1))
              (λ e. cc) (λ e. cc)
              (refl, subst (HasParty nothing Put k z id p true i) (sym (put_here r.cells c row')) (here', refl))
              refl (λ d n. refl) (length-set s.homes (slot_of c p) none) (λ d b n. set_else s.homes (slot_of c p) (slot_of d b) none (slots_apart d c b p n))
              (λ _. (
                ok.0,
                both_sides p (λ b. get_elem? hs (slot_of c b) ≡ slot (parties' b)) (set_here s.homes (slot_of c p) none (below s.homes (slot_of c p) (some nothing) home) ∙ ap slot (sym here'))
                    (set_else s.homes (slot_of c p) (slot_of c (not p)) none (sides_apart c p) ∙ (ok.1 (not p) ∙ ap slot (sym else'))),
              ))
              (both_sides p (λ b. Comes nothing Put k z vs c b i (parties' b)) (subst (Comes nothing Put k z vs c p i) (sym here') (set_here s.views id w (below s.views id v at)))
              (subst (Comes nothing Put k z vs c (not p) i) (sym else') (other_seated s.views z id c p false i w at (parties (not p)) (seats (not p))))),
        )

    -- a party takes its slot in hand where the other one came
    takes_half : (s : State X (View K)) (r : Kept nothing Put k s) (id c : ℕ) (p : Bool) (i : List ℕ) → get_elem? s.views id ≡ some (view (Party p false) c i k r.table) → c < length s.words
        → r.cells c ≡ half p (coming id false) i
        → (get_elem? s.homes (slot_of c p) ≡ some (some nothing)) × Kept nothing Put k record { words = s.words; homes = set s.homes (slot_of c p) none; views = set s.views id (view (Party p true) c i k r.table) }
    takes_half s r id c p i at lt was = let z = r.table in let v : View K = view (Party p false) c i k z in let w : View K = view (Party p true) c i k z in let row' : Row = half p (coming id true) i in
        let ok = subst (CellOk nothing Put k z (get_or s.words c 0) (λ b. get_elem? s.homes (slot_of c b))) was (r.each_cell c lt) in
        let hs : List (maybe.Option X) = set s.homes (slot_of c p) none in (
          ok.2,
          moves_one nothing Put k s r id v w row' s.words hs at (λ e. cc)
              record { frees = λ j n e. absurd (cc); claims = λ j i n e. absurd (cc) }
              (λ j b h l n x. absurd (n (let y = (subst (HasParty nothing Put k z j b h l) was x).1 in cc)))
              (λ e. cc) (λ e. cc)
              (refl, subst (HasParty nothing Put k z id p true i) (sym (put_here r.cells c row')) (refl, refl, refl))
              refl (λ d n. refl) (length-set s.homes (slot_of c p) none) (λ d b n. set_else s.homes (slot_of c p) (slot_of d b) none (slots_apart d c b p n))
              (λ _. (
                ok.0,
                (ok.1.0, set_else s.homes (slot_of c p) (slot_of c (not p)) none (sides_apart c p) ∙ ok.1.1, ok.1.2),
                set_here s.homes (slot_of c p) none (below s.homes (slot_of c p) (some nothing) ok.2),
              ))
              (set_here s.views id w (below s.views id v at)),
        )

    pub takes_slot : (z : TableId) (n c id : ℕ) (p : Bool) (i : List ℕ) → c < n → Allows (Kept nothing Put k) (2 * n) id (view (Party p false) c i k z, []) 0 (λ x. x) (λ _ m. took p nothing (view (Party p false) c i k z, []) m)
    takes_slot z n c id p i near s r wide at _ = let v : View K = view (Party p false) c i k z in let fits = r.each_view id v at in let same : r.table ≡ z = sym (ap (λ (v : View K). v.of.table_id) fits.0) in
        let sized = r.sized in let lt : c < length s.words = omega arith in let at' : get_elem? s.views id ≡ some (view (Party p false) c i k r.table) = at ∙ ap (λ t. some (view (Party p false) c i k t)) (sym same) in
        let got = ⊎_elim (λ (x : (parties : Bool → Coming) × (r.cells c ≡ paired parties i) × (parties p ≡ coming id false)). takes_paired s r id c p i at' lt x.0 x.1 x.2) (λ (x : r.cells c ≡ half p (coming id false) i). takes_half s r id c p i at' lt x) (party_row r.table id p false i (r.cells c) fits.1) in (
          view (Party p true) c i k z,
          takes (slot_of c p) nothing,
          got.0,
          subst (λ (y : List ℕ × TableId). Kept nothing Put k record { words = y.0; homes = set s.homes (slot_of c p) none; views = set s.views id (view (Party p true) c i k y.1) }) (λ l. (sym (read_only s.words) l, same l)) got.1,
          refl,
        )

    -- the first party puts its value and goes
    first_at : (s : State X (View K)) (r : Kept nothing Put k s) (id c : ℕ) (p : Bool) (i : List ℕ) (x : X) → get_elem? s.views id ≡ some (view (Party p true) c i k r.table) → c < length s.words → Put p i k r.table x
        → (parties : Bool → Coming) → r.cells c ≡ paired parties i → parties p ≡ coming id true
        → (get_or s.words c 0 ≡ 0) × Kept nothing Put k record { words = set s.words c (bit_or (get_or s.words c 0) (bit_of p)); homes = set s.homes (slot_of c p) (some x); views = set s.views id spent }
    first_at s r id c p i x at lt put_ok parties was mine = let z = r.table in let v : View K = view (Party p true) c i k z in let theirs : Coming = parties (not p) in let row' : Row = half (not p) theirs i in
        let ok = subst (CellOk nothing Put k z (get_or s.words c 0) (λ b. get_elem? s.homes (slot_of c b))) was (r.each_cell c lt) in
        let seats = subst (Seated nothing Put k z s.views c) was (r.each_seat c) in
        let slot : Coming → maybe.Option (maybe.Option X) = slot_of_coming nothing Put k z in
        let home : get_elem? s.homes (slot_of c p) ≡ some none = ok.1 p ∙ ap slot mine in
        let now : bit_or (get_or s.words c 0) (bit_of p) ≡ bit_of p = ap (λ m. bit_or m (bit_of p)) ok.0 ∙ or_first p in
        let hs : List (maybe.Option X) = set s.homes (slot_of c p) (some x) in let vs : List (View K) = set s.views id spent in let ws : List ℕ = set s.words c (bit_or (get_or s.words c 0) (bit_of p)) in (
          ok.0,
          moves_one nothing Put k s r id v spent row' ws hs at (λ e. cc)
              record { frees = λ j n e. absurd (cc); claims = λ j i n e. absurd (cc) }
              (λ j b h l n y. let y' = subst (HasParty nothing Put k z j b h l) was y in let two = both_sides p (λ b. parties b ≡ coming j h → (not p ≡ b) × (theirs ≡ coming j h)) (λ e. absurd (n (let f = mine in cc))) (λ e. (refl, e)) b y'.0 in (two.0, two.1, y'.1))
              (λ e. cc) (λ e. cc)
              tt
              (length-set s.words c _) (λ d n. get_or-set_other s.words c d _ 0 n) (length-set s.homes (slot_of c p) (some x)) (λ d b n. set_else s.homes (slot_of c p) (slot_of d b) (some x) (slots_apart d c b p n))
              (λ _. (
                get_or-set_same s.words c _ 0 lt ∙ (now ∙ ap bit_of (sym (not_not p))),
                subst (λ b. (x : X) × (get_elem? hs (slot_of c b) ≡ some (some x)) × Put b i k z x) (sym (not_not p)) (x, set_here s.homes (slot_of c p) (some x) (below s.homes (slot_of c p) none home), put_ok),
                set_else s.homes (slot_of c p) (slot_of c (not p)) (some x) (sides_apart c p) ∙ ok.1 (not p),
              ))
              (other_seated s.views z id c p true i spent at theirs (seats (not p))),
        )

    -- the last party takes the other's slot too
    last_at : (s : State X (View K)) (r : Kept nothing Put k s) (id c : ℕ) (p : Bool) (i : List ℕ) → get_elem? s.views id ≡ some (view (Party p true) c i k r.table) → c < length s.words
        → r.cells c ≡ half p (coming id true) i
        → (get_or s.words c 0 ≡ bit_of (not p)) × ((y : X) × (get_elem? s.homes (slot_of c (not p)) ≡ some (some y)) × Put (not p) i k r.table y)
        × Kept nothing Put k record { words = set s.words c (bit_or (get_or s.words c 0) (bit_of p)); homes = set s.homes (slot_of c (not p)) none; views = set s.views id (view Claim c i k r.table) }
    last_at s r id c p i at lt was = let z = r.table in let v : View K = view (Party p true) c i k z in let w : View K = view Claim c i k z in let row' : Row = claimed id i in
        let ok = subst (CellOk nothing Put k z (get_or s.words c 0) (λ b. get_elem? s.homes (slot_of c b))) was (r.each_cell c lt) in
        let now : bit_or (get_or s.words c 0) (bit_of p) ≡ 3 = ap (λ m. bit_or m (bit_of p)) ok.0 ∙ or_last p in
        let hs : List (maybe.Option X) = set s.homes (slot_of c (not p)) none in let ws : List ℕ = set s.words c (bit_or (get_or s.words c 0) (bit_of p)) in (
          ok.0,
          ok.1,
          moves_one nothing Put k s r id v w row' ws hs at (λ e. cc)
              record { frees = λ j n e. absurd (cc); claims = λ j i n e. absurd (cc) }
              (λ j b h l n y. absurd (n (let y' = (subst (HasParty nothing Put k z j b h l) was y).1 in cc)))
              (λ e. cc) (λ e. cc)
              (refl, put_here r.cells c row')
              (length-set s.words c _) (λ d n. get_or-set_other s.words c d _ 0 n) (length-set s.homes (slot_of c (not p)) none) (λ d b n. set_else s.homes (slot_of c (not p)) (slot_of d b) none (slots_apart d c b (not p) n))
              (λ _. (
                get_or-set_same s.words c _ 0 lt ∙ now,
                both_sides p (λ b. get_elem? hs (slot_of c b) ≡ some none) (set_else s.homes (slot_of c (not p)) (slot_of c p) none (λ e. sides_apart c p (sym e)) ∙ ok.2) (set_here s.homes (slot_of c (not p)) none (below s.homes (slot_of c (not p)) (some ok.1.0) ok.1.1)),
              ))
              (set_here s.views id w (below s.views id v at)),
        )

    -- what the step by which a party comes owes
    abbrev Comes_by : (s : State X (View K)) (z : TableId) (c id : ℕ) (p : Bool) (i : List ℕ) (x : X) → Type 0
    Comes_by s z c id p i x = (w : View K) × (a : Act X) × Valid s.homes ((slot_of c p, x) ∷ []) a × Kept nothing Put k (stepped s c (bit_or (get_or s.words c 0) (bit_of p)) id ((slot_of c p, x) ∷ []) w a)
        × came Put p (view (Party p true) c i k z, (slot_of c p, x) ∷ []) (get_or s.words c 0) (w, carried_after ((slot_of c p, x) ∷ []) a)

    pub comes : (z : TableId) (n c id : ℕ) (p : Bool) (i : List ℕ) (x : X) → c < n → Put p i k z x → Allows (Kept nothing Put k) (2 * n) id (view (Party p true) c i k z, (slot_of c p, x) ∷ []) c (λ m. bit_or m (bit_of p)) (came Put p (view (Party p true) c i k z, (slot_of c p, x) ∷ []))
    comes z n c id p i x near put_ok s r wide at _ = let v : View K = view (Party p true) c i k z in let fits = r.each_view id v at in let same : r.table ≡ z = sym (ap (λ (v : View K). v.of.table_id) fits.0) in
        let sized = r.sized in let lt : c < length s.words = omega arith in let at' : get_elem? s.views id ≡ some (view (Party p true) c i k r.table) = at ∙ ap (λ t. some (view (Party p true) c i k t)) (sym same) in
        ⊎_elim {C = Comes_by s z c id p i x} (λ (h : (parties : Bool → Coming) × (r.cells c ≡ paired parties i) × (parties p ≡ coming id true)). let got = first_at s r id c p i x at' lt (subst (λ t. Put p i k t x) (sym same) put_ok) h.0 h.1 h.2 in (
          spent,
          gives,
          tt,
          got.1,
          ((λ e. let nought = got.0 in absurd (omega arith)), λ _. refl),
        ))
        (λ (h : r.cells c ≡ half p (coming id true) i). let got = last_at s r id c p i at' lt h in (
          view Claim c i k z,
          takes (slot_of c (not p)) got.1.0,
          got.1.1,
          subst (λ t. Kept nothing Put k record { words = set s.words c (bit_or (get_or s.words c 0) (bit_of p)); homes = set s.homes (slot_of c (not p)) none; views = set s.views id (view Claim c i k t) }) same got.2,
          ((λ _. (got.1.0, k, refl, refl, subst (λ t. Put (not p) i k t got.1.0) same got.1.2)), λ n. absurd (n got.0)),
        ))
        (party_row r.table id p true i (r.cells c) fits.1)

    resets_at : (s : State X (View K)) (r : Kept nothing Put k s) (id c : ℕ) (p : Bool) (i : List ℕ) → get_elem? s.views id ≡ some (view Claim c i k r.table) → c < length s.words
        → Kept nothing Put k record { words = set s.words c 0; homes = set (set s.homes (slot_of c p) (some nothing)) (slot_of c (not p)) (some nothing); views = set s.views id (view Free c [] k r.table) }
    resets_at s r id c p i at lt = let z = r.table in let v : View K = view Claim c i k z in let w : View K = view Free c [] k z in let fits = r.each_view id v at in let was : r.cells c ≡ claimed id i = fits.1 in
        let ok = subst (CellOk nothing Put k z (get_or s.words c 0) (λ b. get_elem? s.homes (slot_of c b))) was (r.each_cell c lt) in
        let hs : List (maybe.Option X) = set s.homes (slot_of c p) (some nothing) in let ph : Row = free id in
        let lp = below s.homes (slot_of c p) none (ok.1 p) in let lq = below s.homes (slot_of c (not p)) none (ok.1 (not p)) in
        moves_one nothing Put k s r id v w ph (set s.words c 0) (set hs (slot_of c (not p)) (some nothing)) at (λ e. cc)
        record { frees = λ j n e. absurd (n (cc)); claims = λ j i n e. absurd (n (cc)) }
        (λ j b h l n y. absurd (subst (HasParty nothing Put k z j b h l) was y))
        (λ e. cc) (λ e. cc)
        (refl, put_here r.cells c ph)
        (length-set s.words c 0) (λ d n. get_or-set_other s.words c d 0 0 n) (length-set hs (slot_of c (not p)) (some nothing) ∙ length-set s.homes (slot_of c p) (some nothing))
        (λ d b n. set_else hs (slot_of c (not p)) (slot_of d b) (some nothing) (slots_apart d c b (not p) n) ∙ set_else s.homes (slot_of c p) (slot_of d b) (some nothing) (slots_apart d c b p n))
        (λ _. (
          get_or-set_same s.words c 0 0 lt,
          both_sides p (λ b. get_elem? (set hs (slot_of c (not p)) (some nothing)) (slot_of c b) ≡ some (some nothing)) (set_else hs (slot_of c (not p)) (slot_of c p) (some nothing) (λ e. sides_apart c p (sym e)) ∙ set_here s.homes (slot_of c p) (some nothing) lp)
              (set_here hs (slot_of c (not p)) (some nothing) (subst (λ m. slot_of c (not p) < m) (sym (length-set s.homes (slot_of c p) (some nothing))) lq)),
        ))
        (set_here s.views id w (below s.views id v at))

    pub resets : (z : TableId) (n c id : ℕ) (p : Bool) (i : List ℕ) → c < n
        → Allows (Kept nothing Put k) (2 * n) id (view Claim c i k z, (slot_of c p, nothing) ∷ (slot_of c (not p), nothing) ∷ []) c (λ _. 0) (λ _ m. reset (view Claim c i k z, (slot_of c p, nothing) ∷ (slot_of c (not p), nothing) ∷ []) m)
    resets z n c id p i near s r wide at _ = let same : r.table ≡ z = sym (ap (λ (v : View K). v.of.table_id) (r.each_view id (view Claim c i k z) at).0) in let sized = r.sized in let lt : c < length s.words = omega arith in (
      view Free c [] k z,
      chain gives gives,
      (tt, tt),
      subst (λ t. Kept nothing Put k record { words = set s.words c 0; homes = set (set s.homes (slot_of c p) (some nothing)) (slot_of c (not p)) (some nothing); views = set s.views id (view Free c [] k t) }) same
          (resets_at s r id c p i (at ∙ ap (λ t. some (view Claim c i k t)) (sym same)) lt),
      refl,
    )

    -- the same, for a caller that knows its seat by equations
    pub takes_me : (z : TableId) (n slots c id : ℕ) (p : Bool) (i : List ℕ) (me : Me X (View K)) → slots ≡ 2 * n → c < n → me ≡ (view (Party p false) c i k z, []) → Allows (Kept nothing Put k) slots id me 0 (λ x. x) (λ _ m. took p nothing me m)
    takes_me z n slots c id p i me wide near is = subst (λ (y : ℕ × Me X (View K)). Allows (Kept nothing Put k) y.0 id y.1 0 (λ x. x) (λ _ m. took p nothing y.1 m)) (λ l. (sym wide l, sym is l)) (takes_slot z n c id p i near)

    pub comes_me : (z : TableId) (n slots c id bit : ℕ) (p : Bool) (i : List ℕ) (x : X) (me : Me X (View K)) → slots ≡ 2 * n → c < n → bit ≡ bit_of p → Put p i k z x → me ≡ (view (Party p true) c i k z, (slot_of c p, x) ∷ []) → Allows (Kept nothing Put k) slots id me c (λ m. bit_or m bit) (came Put p me)
    comes_me z n slots c id bit p i x me wide near b ok is = subst (λ (y : ℕ × ℕ × Me X (View K)). Allows (Kept nothing Put k) y.0 id y.2 c (λ m. bit_or m y.1) (came Put p y.2)) (λ l. (sym wide l, sym b l, sym is l)) (comes z n c id p i x near ok)

    pub resets_me : (z : TableId) (n slots c id : ℕ) (p : Bool) (i : List ℕ) (me : Me X (View K)) → slots ≡ 2 * n → c < n → me ≡ (view Claim c i k z, (slot_of c p, nothing) ∷ (slot_of c (not p), nothing) ∷ []) → Allows (Kept nothing Put k) slots id me c (λ _. 0) (λ _ m. reset me m)
    resets_me z n slots c id p i me wide near is = subst (λ (y : ℕ × Me X (View K)). Allows (Kept nothing Put k) y.0 id y.1 c (λ _. 0) (λ _ m. reset y.1 m)) (λ l. (sym wide l, sym is l)) (resets z n c id p i near)
