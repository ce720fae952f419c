-- The steps that make, pair and unpair cells keep the rule of the cell table.
use Rattle.std.proofs.Common.{◌≡◌, ℕ, zero, suc, ◌+◌, ◌*◌, ◌<◌, ◌≢◌, ◌⊎◌, inl, inr, Bool, true, false, List, [], ◌∷◌, ◌++◌, map, replicate, length, get_or, set, sym, refl, ap, ◌∙◌, subst, ⊎_elim, arith, lt_of_not-le}
use mathlib.Core.Option.{some, some-injective}
use lib.ListN.{get_elem?, length-map, length-replicate}
use Rattle.atomic_table.specs.Table.{State, Me, keeps, Allows, Splits, Joins, opening}
use Rattle.atomic_table.specs.Seated.{TableId}
use Rattle.atomic_table.proofs.Lists.{at_set, set_here, set_else, at_longer, at_last}
use Rattle.hv_cell.specs.declared.cell_view.Role.TheVariants.{Maker, Free, Party}
use Rattle.hv_cell.specs.declared.cell_view.View.{View}
use Rattle.hv_cell.specs.Tokens.{no_table}
use Rattle.hv_cell.specs.CellRule.{slot_of, Coming, coming, Row, unmade, free, paired, half, claimed, view, fresh, spent, slot_of_coming, CellOk, Comes, HasParty, Fits, Kept}
use Rattle.hv_cell.specs.CellPlays.{named, maker_left, maker_right, party_of, freed}
use Rattle.hv_cell.proofs.Lists.{below, alone, at_end, read_only}
use Rattle.hv_cell.proofs.Sides.{put, put_here, both_sides, slot_near}
use Rattle.hv_cell.proofs.Moves.{moves}

blank : {A : Type 0} (a : A) (n i : ℕ) → i < n → get_elem? (map some (replicate {A = A} n a)) i ≡ some (some a)
blank a zero i near = absurd (omega arith)
blank a (suc n) zero near = refl
blank a (suc n) (suc i) near = blank a n i (omega arith)

zeros : (n i : ℕ) → get_or (replicate {A = ℕ} n 0) i 0 ≡ 0
zeros zero i = refl
zeros (suc n) zero = refl
zeros (suc n) (suc i) = zeros n i

-- the parties of a new pair: the finisher at the first seat, and the awaiter at the second
abbrev pub two : ℕ → ℕ → Bool → Coming
two a b false = coming a false
two a b true = coming b false

module _ {X K : Type 0} (nothing : X) (Put : Bool → List ℕ → K → TableId → X → Type 0) where
  module _ (k : K) where
    -- a cell with both parties to come is in that row
    pair_row : (z : TableId) (j l : ℕ) (h h' : Bool) (i i' : List ℕ) (row : Row) → HasParty nothing Put k z j false h i row → HasParty nothing Put k z l true h' i' row
        → (parties : Bool → Coming) × (row ≡ paired parties i) × (parties false ≡ coming j h) × (parties true ≡ coming l h')
    pair_row z j l h h' i i' unmade x y = absurd x
    pair_row z j l h h' i i' (free m) x y = absurd x
    pair_row z j l h h' i i' (paired parties o) x y = (parties, ap (paired parties) x.1, x.0, y.0)
    pair_row z j l h h' i i' (half s party o) x y = absurd (let a = x.0 in let b = y.0 in cc)
    pair_row z j l h h' i i' (claimed m o) x y = absurd x

    pub opens : (n : ℕ) → Kept nothing Put k (opening (replicate {A = ℕ} n 0) (replicate {A = X} (2 * n) nothing) (fresh k))
    opens n = record {
      table = no_table;
      next = 0;
      maker_seat = 0;
      cells = λ _. unmade;
      sized = length-map (replicate (2 * n) nothing) some ∙ length-replicate (2 * n) nothing ∙ ap (λ m. 2 * m) (sym (length-replicate {A = ℕ} n 0));
      each_view = λ j v e. let F : View K → Type 0 = λ x. Fits nothing Put k no_table (λ _. unmade) 0 0 1 j x x.role in subst F (alone (fresh k ∷ []) 0 j (fresh k) v refl refl e) (refl, refl, refl);
      each_cell = λ c lt. (zeros n c, λ p. blank nothing (2 * n) (slot_of c p) (slot_near c n p (subst (λ m. c < m) (length-replicate {A = ℕ} n 0) lt)));
      each_seat = λ c. tt;
      made = λ c lt. absurd (omega arith);
      not_made = λ c _. refl;
    }

    pub names : (z : TableId) (n id : ℕ) → Allows (Kept nothing Put k) n id (fresh k, []) 0 (λ x. x) (λ _ m. named z (fresh k, []) m)
    names z n id s r wide at _ = let fits = r.each_view id (fresh k) at in let w : View K = view Maker 0 [] k z in let none_made : (c : ℕ) → r.cells c ≡ unmade = λ c. r.not_made c (let e = fits.2 in omega arith) in (
      w,
      keeps,
      tt,
      record {
        table = z;
        next = 0;
        maker_seat = id;
        cells = λ _. unmade;
        sized = r.sized ∙ ap (λ l. 2 * length l) (sym (read_only s.words));
        each_view = λ j v e. ⊎_elim (λ (x : (j ≡ id) × (w ≡ v)). subst (λ (y : View K). Fits nothing Put k z (λ _. unmade) 0 id (length (set s.views id w)) j y y.role) x.1 (refl, x.0))
            (λ (x : (j ≢ id) × (get_elem? s.views j ≡ some v)). absurd (x.0 (let p = below s.views j v x.1 in let q = below s.views id (fresh k) at in let one = fits.1 in omega arith))) (at_set s.views id j w v e);
        each_cell = λ c lt. let l : c < length s.words = subst (λ l. c < length l) (read_only s.words) lt in
            subst (λ (ws : List ℕ). CellOk nothing Put k z (get_or ws c 0) (λ p. get_elem? s.homes (slot_of c p)) unmade) (sym (read_only s.words)) (subst (λ ph. CellOk nothing Put k r.table (get_or s.words c 0) (λ p. get_elem? s.homes (slot_of c p)) ph) (none_made c) (r.each_cell c l));
        each_seat = λ c. tt;
        made = λ c lt. absurd (omega arith);
        not_made = λ c _. refl;
      },
      refl,
    )

    -- the seat's table is the rule's
    made_at : (s : State X (View K)) (r : Kept nothing Put k s) (id m : ℕ) → get_elem? s.views id ≡ some (view Maker m [] k r.table)
        → Kept nothing Put k record { words = s.words; homes = s.homes; views = set s.views id (view Maker (m + 1) [] k r.table) ++ view Free m [] k r.table ∷ [] }
    made_at s r id m at = let z = r.table in let v : View K = view Maker m [] k z in let u : View K = view Maker (m + 1) [] k z in let w : View K = view Free m [] k z in let fits = r.each_view id v at in
        let here : m ≡ r.next = ap (λ (x : View K). x.cell) fits.0 in let none : r.cells m ≡ unmade = r.not_made m (omega arith) in let vs : List (View K) = set s.views id u in let ph : Row = free (length vs) in
        moves nothing Put k s r id v (λ j. j ≡ id) m ph s.words s.homes (vs ++ w ∷ []) (m + 1) at (λ e. cc) (λ j x g e. ap (λ (y : View K). y.cell) (some-injective x v (sym e ∙ ap (get_elem? s.views) g ∙ at)))
        record { frees = λ j n e. absurd (cc); claims = λ j i n e. absurd (cc) }
        (λ j p h i n x. absurd (subst (HasParty nothing Put k z j p h i) none x))
        (inr (sym fits.1)) (omega arith) (omega arith) (λ e. cc) (λ d n lt. omega (arith, n, lt, here))
        (λ j x e. ⊎_elim (λ old. ⊎_elim (λ (y : (j ≡ id) × (u ≡ x)). inl (subst (λ (t : View K). Fits nothing Put k z (put r.cells m ph) (m + 1) r.maker_seat (length (vs ++ w ∷ [])) j t t.role) y.1 (refl, y.0 ∙ fits.1)))
        (λ (y : (j ≢ id) × (get_elem? s.views j ≡ some x)). inr y) (at_set s.views id j u x old))
        (λ (y : (j ≡ length vs) × (w ≡ x)). inl (subst (λ (t : View K). Fits nothing Put k z (put r.cells m ph) (m + 1) r.maker_seat (length (vs ++ w ∷ [])) j t t.role) y.1 (refl, put_here r.cells m ph ∙ ap free (sym y.0))))
        (at_end vs w x j e))
        (λ j x n e. at_longer vs (w ∷ []) j x (set_else s.views id j u n ∙ e))
        refl (λ d n. refl) refl (λ d p n. refl)
        (λ lt. subst (CellOk nothing Put k z (get_or s.words m 0) (λ p. get_elem? s.homes (slot_of m p))) none (r.each_cell m lt))
        (at_last vs w (length vs) refl)

    pub makes : (z : TableId) (m id : ℕ) → Splits (Kept nothing Put k) id (view Maker m [] k z) (view Maker (m + 1) [] k z) (view Free m [] k z)
    makes z m id s r at = let same : r.table ≡ z = sym (ap (λ (v : View K). v.of.table_id) (r.each_view id (view Maker m [] k z) at).0) in
        subst (λ t. Kept nothing Put k record { words = s.words; homes = s.homes; views = set s.views id (view Maker (m + 1) [] k t) ++ view Free m [] k t ∷ [] }) same
        (made_at s r id m (at ∙ ap (λ t. some (view Maker m [] k t)) (sym same)))

    paired_at : (s : State X (View K)) (r : Kept nothing Put k s) (id c : ℕ) (i : List ℕ) → get_elem? s.views id ≡ some (view Free c [] k r.table)
        → Kept nothing Put k record { words = s.words; homes = s.homes; views = set s.views id (view (Party false false) c i k r.table) ++ view (Party true false) c i k r.table ∷ [] }
    paired_at s r id c i at = let z = r.table in let v : View K = view Free c [] k z in let u : View K = view (Party false false) c i k z in let w : View K = view (Party true false) c i k z in let fits = r.each_view id v at in
        let was : r.cells c ≡ free id = fits.1 in let vs : List (View K) = set s.views id u in let parties : Bool → Coming = two id (length vs) in let ph : Row = paired parties i in
        let F : ℕ → View K → Type 0 = λ j t. Fits nothing Put k z (put r.cells c ph) r.next r.maker_seat (length (vs ++ w ∷ [])) j t t.role in
        let is_here : (s h : Bool) (j : ℕ) → parties s ≡ coming j h → HasParty nothing Put k z j s h i (put r.cells c ph c) = λ s h j e. subst (HasParty nothing Put k z j s h i) (sym (put_here r.cells c ph)) (e, refl) in
        moves nothing Put k s r id v (λ j. j ≡ id) c ph s.words s.homes (vs ++ w ∷ []) r.next at (λ e. cc) (λ j x g e. ap (λ (y : View K). y.cell) (some-injective x v (sym e ∙ ap (get_elem? s.views) g ∙ at)))
        record { frees = λ j n e. absurd (n (cc)); claims = λ j i n e. absurd (cc) }
        (λ j p h i n x. absurd (subst (HasParty nothing Put k z j p h i) was x))
        (inl refl) (omega arith) (lt_of_not-le (λ h. let e = r.not_made c h in cc)) (λ e. cc) (λ d _ lt. lt)
        (λ j x e. ⊎_elim (λ old. ⊎_elim (λ (y : (j ≡ id) × (u ≡ x)). inl (subst (F j) y.1 (refl, is_here false false j (ap (λ n. coming n false) (sym y.0)))))
        (λ (y : (j ≢ id) × (get_elem? s.views j ≡ some x)). inr y) (at_set s.views id j u x old))
        (λ (y : (j ≡ length vs) × (w ≡ x)). inl (subst (F j) y.1 (refl, is_here true false j (ap (λ n. coming n false) (sym y.0)))))
        (at_end vs w x j e))
        (λ j x n e. at_longer vs (w ∷ []) j x (set_else s.views id j u n ∙ e))
        refl (λ d n. refl) refl (λ d p n. refl)
        (λ lt. let ok = subst (CellOk nothing Put k z (get_or s.words c 0) (λ p. get_elem? s.homes (slot_of c p))) was (r.each_cell c lt) in
        (ok.0, both_sides false (λ p. get_elem? s.homes (slot_of c p) ≡ slot_of_coming nothing Put k z (parties p)) (ok.1 false) (ok.1 true)))
        (both_sides false (λ p. Comes nothing Put k z (vs ++ w ∷ []) c p i (parties p)) (at_longer vs (w ∷ []) id u (set_here s.views id u (below s.views id v at))) (at_last vs w (length vs) refl))

    pub pairs : (z : TableId) (c id : ℕ) (i : List ℕ) → Splits (Kept nothing Put k) id (view Free c [] k z) (view (Party false false) c i k z) (view (Party true false) c i k z)
    pairs z c id i s r at = let same : r.table ≡ z = sym (ap (λ (v : View K). v.of.table_id) (r.each_view id (view Free c [] k z) at).0) in
        subst (λ t. Kept nothing Put k record { words = s.words; homes = s.homes; views = set s.views id (view (Party false false) c i k t) ++ view (Party true false) c i k t ∷ [] }) same
        (paired_at s r id c i (at ∙ ap (λ t. some (view Free c [] k t)) (sym same)))

    unpaired_at : (s : State X (View K)) (r : Kept nothing Put k s) (id other c : ℕ) (i i' : List ℕ) (z : TableId) → ¬ (other ≡ id) → get_elem? s.views id ≡ some (view (Party false false) c i k r.table) → get_elem? s.views other ≡ some (view (Party true false) c i' k z)
        → Kept nothing Put k record { words = s.words; homes = s.homes; views = set (set s.views id (view Free c [] k r.table)) other spent }
    unpaired_at s r id other c i i' z' two_seats at at' = let z = r.table in let v : View K = view (Party false false) c i k z in let w : View K = view (Party true false) c i' k z' in let both : View K = view Free c [] k z in
        let fits = r.each_view id v at in let theirs = r.each_view other w at' in let q = pair_row z id other false false i i' (r.cells c) fits.1 theirs.1 in
        let parties = q.0 in let was : r.cells c ≡ paired parties i = q.1 in
        let gone : ℕ → Type 0 = λ j. (j ≡ id) ⊎ (j ≡ other) in let ph : Row = free id in let vs : List (View K) = set s.views id both in
        moves nothing Put k s r id v gone c ph s.words s.homes (set vs other spent) r.next at (λ e. cc)
        (λ j x g e. ⊎_elim (λ (g : j ≡ id). ap (λ (y : View K). y.cell) (some-injective x v (sym e ∙ ap (get_elem? s.views) g ∙ at))) (λ (g : j ≡ other). ap (λ (y : View K). y.cell) (some-injective x w (sym e ∙ ap (get_elem? s.views) g ∙ at'))) g)
        record { frees = λ j n e. absurd (cc); claims = λ j i n e. absurd (cc) }
        (λ j b h l n x. let y = (subst (HasParty nothing Put k z j b h l) was x).0 in absurd (both_sides false (λ b. parties b ≡ coming j h → ⊥) (λ e. n (inl (let f = q.2 in cc))) (λ e. n (inr (let f = q.3 in cc))) b y))
        (inl refl) (omega arith) (lt_of_not-le (λ h. let e = r.not_made c h in cc)) (λ e. cc) (λ d _ lt. lt)
        (λ j x e. ⊎_elim (λ (y : (j ≡ other) × (spent ≡ x)). inl (subst (λ (t : View K). Fits nothing Put k z (put r.cells c ph) r.next r.maker_seat (length (set vs other spent)) j t t.role) y.1 tt))
        (λ (y : (j ≢ other) × (get_elem? vs j ≡ some x)). ⊎_elim (λ (t : (j ≡ id) × (both ≡ x)). inl (subst (λ (t : View K). Fits nothing Put k z (put r.cells c ph) r.next r.maker_seat (length (set vs other spent)) j t t.role) t.1 (refl, put_here r.cells c ph ∙ ap free (sym t.0))))
        (λ (t : (j ≢ id) × (get_elem? s.views j ≡ some x)). inr ((λ g. ⊎_elim t.0 y.0 g), t.1)) (at_set s.views id j both x y.1)) (at_set vs other j spent x e))
        (λ j x n e. set_else vs other j spent (λ g. n (inr g)) ∙ (set_else s.views id j both (λ g. n (inl g)) ∙ e))
        refl (λ d n. refl) refl (λ d p n. refl)
        (λ lt. let ok = subst (CellOk nothing Put k z (get_or s.words c 0) (λ p. get_elem? s.homes (slot_of c p))) was (r.each_cell c lt) in
        (ok.0, both_sides false (λ b. get_elem? s.homes (slot_of c b) ≡ some (some nothing)) (ok.1 false ∙ ap (slot_of_coming nothing Put k z) q.2) (ok.1 true ∙ ap (slot_of_coming nothing Put k z) q.3)))
        (set_else vs other id spent (λ g. two_seats (sym g)) ∙ set_here s.views id both (below s.views id v at))

    pub unpairs : (z z' : TableId) (c id other : ℕ) (i i' : List ℕ) → Joins (Kept nothing Put k) id (view (Party false false) c i k z) other (view (Party true false) c i' k z') (view Free c [] k z) spent
    unpairs z z' c id other i i' s r at two_seats at' = let same : r.table ≡ z = sym (ap (λ (v : View K). v.of.table_id) (r.each_view id (view (Party false false) c i k z) at).0) in
        let was : get_elem? s.views other ≡ some (view (Party true false) c i' k z') = sym (set_else s.views id other (view Free c [] k z) two_seats) ∙ at' in
        subst (λ t. Kept nothing Put k record { words = s.words; homes = s.homes; views = set (set s.views id (view Free c [] k t)) other spent }) same
        (unpaired_at s r id other c i i' z' two_seats (at ∙ ap (λ t. some (view (Party false false) c i k t)) (sym same)) was)

    -- the same, for a caller that knows its seat by equations
    pub opens_me : (n : ℕ) (ws : List ℕ) (xs : List X) → ws ≡ replicate {A = ℕ} n 0 → xs ≡ replicate {A = X} (2 * n) nothing → Kept nothing Put k (opening ws xs (fresh k))
    opens_me n ws xs e f = subst (λ (y : List ℕ × List X). Kept nothing Put k (opening y.0 y.1 (fresh k))) (λ l. (sym e l, sym f l)) (opens n)

    pub names_me : (z : TableId) (n id : ℕ) (me : Me X (View K)) → me ≡ (fresh k, []) → Allows (Kept nothing Put k) n id me 0 (λ x. x) (λ _ m. named z me m)
    names_me z n id me is = subst (λ (y : Me X (View K)). Allows (Kept nothing Put k) n id y 0 (λ x. x) (λ _ m. named z y m)) (sym is) (names z n id)

    pub makes_me : (z : TableId) (m id : ℕ) (v : View K) → v ≡ view Maker m [] k z → Splits (Kept nothing Put k) id v (maker_left v) (maker_right v)
    makes_me z m id v is = subst (λ (y : View K). Splits (Kept nothing Put k) id y (maker_left y) (maker_right y)) (sym is) (makes z m id)

    pub pairs_me : (z : TableId) (c id : ℕ) (i : List ℕ) (v : View K) → v ≡ view Free c [] k z → Splits (Kept nothing Put k) id v (party_of false i v) (party_of true i v)
    pairs_me z c id i v is = subst (λ (y : View K). Splits (Kept nothing Put k) id y (party_of false i y) (party_of true i y)) (sym is) (pairs z c id i)

    pub unpairs_me : (z z' : TableId) (c c' id other : ℕ) (i i' : List ℕ) (v w : View K) → v ≡ view (Party false false) c i k z → w ≡ view (Party true false) c' i' k z' → c' ≡ c → Joins (Kept nothing Put k) id v other w (freed v) spent
    unpairs_me z z' c c' id other i i' v w e f one = subst (λ (y : View K × View K). Joins (Kept nothing Put k) id y.0 other y.1 (freed y.0) spent) (λ l. (sym e l, sym (f ∙ ap (λ d. view (Party true false) d i' k z') one) l)) (unpairs z z' c id other i i')
