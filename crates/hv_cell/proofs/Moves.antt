-- A step on the cell table moves some seats and one cell, and keeps the rule.
use Rattle.std.proofs.Common.{◌≡◌, ℕ, ◌*◌, ◌<◌, ◌≤◌, ◌≢◌, ◌⊎◌, inl, inr, Bool, List, [], length, get_or, set, sym, refl, ap, ◌∙◌, subst, ⊎_elim, arith, lt_of_not-le}
use mathlib.Core.Option as maybe
use mathlib.Core.Option.{none, some, some-injective}
use lib.ListN.{get_elem?}
use Rattle.atomic_table.specs.Table.{State}
use Rattle.atomic_table.specs.Seated.{TableId}
use Rattle.atomic_table.proofs.Lists.{at_set, set_else}
use Rattle.hv_cell.specs.declared.cell_view.Role.{Role}
use Rattle.hv_cell.specs.declared.cell_view.Role.TheVariants.{Fresh, Maker, Free, Party, Claim, Spent}
use Rattle.hv_cell.specs.declared.cell_view.View.{View}
use Rattle.hv_cell.specs.CellRule.{slot_of, Coming, coming, Row, unmade, free, paired, half, claimed, view, CellOk, Comes, Seated, HasParty, Fits, Kept}
use Rattle.hv_cell.proofs.Lists.{alone}
use Rattle.hv_cell.proofs.Sides.{put, at_put}

-- what the seats that stay know of a cell is kept when its row goes from one to the other
pub record Stays (gone : ℕ → Type 0) (ph ph' : Row) : Type 0 where
  pub frees : (j : ℕ) → ¬ gone j → ph ≡ free j → ph' ≡ free j
  pub claims : (j : ℕ) (i : List ℕ) → ¬ gone j → ph ≡ claimed j i → ph' ≡ claimed j i

module _ {X K : Type 0} (nothing : X) (Put : Bool → List ℕ → K → TableId → X → Type 0) where
  module _ (k : K) where
    -- where some seat has a view that is not fresh, none is fresh
    pub no_fresh : (s : State X (View K)) (r : Kept nothing Put k s) (id : ℕ) (u : View K) → get_elem? s.views id ≡ some u → u.role ≢ Fresh → (j : ℕ) (v : View K) → get_elem? s.views j ≡ some v → v.role ≢ Fresh
    no_fresh s r id u at old j v e is = old (ap (λ (x : View K). x.role) (alone s.views id j u v (subst (Fits nothing Put k r.table r.cells r.next r.maker_seat (length s.views) j v) is (r.each_view j v e)).1 at e) ∙ is)

    stays_fit : (z : TableId) (cells : ℕ → Row) (c : ℕ) (ph : Row) (next next' maker n n' : ℕ) (gone : ℕ → Type 0) (j : ℕ) (u : View K) → Stays gone (cells c) ph → ((p h : Bool) (i : List ℕ) → HasParty nothing Put k z j p h i (cells c) → HasParty nothing Put k z j p h i ph)
        → ((next' ≡ next) ⊎ gone maker) → ¬ gone j → (r : Role) → r ≢ Fresh → Fits nothing Put k z cells next maker n j u r → Fits nothing Put k z (put cells c ph) next' maker n' j u r
    stays_fit z cells c ph next next' maker n n' gone j u keep parties same other Fresh old x = absurd (old refl)
    stays_fit z cells c ph next next' maker n n' gone j u keep parties same other Maker old x = ⊎_elim (λ e. (x.0 ∙ ap (λ m. view Maker m [] k z) (sym e), x.1)) (λ e. absurd (other (subst gone (sym x.1) e))) same
    stays_fit z cells c ph next next' maker n n' gone j u keep parties same other Free old x = (x.0, at_put cells c ph (λ q p. cells q ≡ free j → p ≡ free j) u.cell (keep.frees j other) (λ _ e. e) x.1)
    stays_fit z cells c ph next next' maker n n' gone j u keep parties same other (Party s h) old x = (x.0, at_put cells c ph (λ q p. HasParty nothing Put k z j s h u.id (cells q) → HasParty nothing Put k z j s h u.id p) u.cell (parties s h u.id) (λ _ e. e) x.1)
    stays_fit z cells c ph next next' maker n n' gone j u keep parties same other Claim old x = (x.0, at_put cells c ph (λ q p. cells q ≡ claimed j u.id → p ≡ claimed j u.id) u.cell (keep.claims j u.id other) (λ _ e. e) x.1)
    stays_fit z cells c ph next next' maker n n' gone j u keep parties same other Spent old x = tt

    comes_else : (z : TableId) (views views' : List (View K)) (gone : ℕ → Type 0) (d : ℕ) → ((j : ℕ) (u : View K) → gone j → get_elem? views j ≡ some u → u.cell ≢ d) → ((j : ℕ) (u : View K) → ¬ gone j → get_elem? views j ≡ some u → get_elem? views' j ≡ some u)
        → (p : Bool) (i : List ℕ) (party : Coming) → Comes nothing Put k z views d p i party → Comes nothing Put k z views' d p i party
    comes_else z views views' gone d other old p i (coming j h) x = old j _ (λ g. other j _ g x refl) x

    -- the views of another cell stay
    seated_else : (z : TableId) (views views' : List (View K)) (gone : ℕ → Type 0) (d : ℕ) → ((j : ℕ) (u : View K) → gone j → get_elem? views j ≡ some u → u.cell ≢ d) → ((j : ℕ) (u : View K) → ¬ gone j → get_elem? views j ≡ some u → get_elem? views' j ≡ some u)
        → (ph : Row) → Seated nothing Put k z views d ph → Seated nothing Put k z views' d ph
    seated_else z views views' gone d other old unmade x = tt
    seated_else z views views' gone d other old (free j) x = old j _ (λ g. other j _ g x refl) x
    seated_else z views views' gone d other old (paired parties i) x = λ p. comes_else z views views' gone d other old p i (parties p) (x p)
    seated_else z views views' gone d other old (half p party i) x = comes_else z views views' gone d other old p i party x
    seated_else z views views' gone d other old (claimed j i) x = old j _ (λ g. other j _ g x refl) x

    -- some seats move, and with them one cell
    pub moves : (s : State X (View K)) (r : Kept nothing Put k s) (id : ℕ) (v : View K) (gone : ℕ → Type 0) (c : ℕ) (ph : Row) (ws : List ℕ) (hs : List (maybe.Option X)) (views : List (View K)) (next : ℕ) → get_elem? s.views id ≡ some v → v.role ≢ Fresh
        → ((j : ℕ) (u : View K) → gone j → get_elem? s.views j ≡ some u → u.cell ≡ c)
        → Stays gone (r.cells c) ph → ((j : ℕ) (p h : Bool) (i : List ℕ) → ¬ gone j → HasParty nothing Put k r.table j p h i (r.cells c) → HasParty nothing Put k r.table j p h i ph)
        → ((next ≡ r.next) ⊎ gone r.maker_seat) → r.next ≤ next → c < next → ph ≢ unmade → ((d : ℕ) → d ≢ c → d < next → d < r.next)
        → ((j : ℕ) (u : View K) → get_elem? views j ≡ some u → Fits nothing Put k r.table (put r.cells c ph) next r.maker_seat (length views) j u u.role ⊎ ((¬ gone j) × (get_elem? s.views j ≡ some u)))
        → ((j : ℕ) (u : View K) → ¬ gone j → get_elem? s.views j ≡ some u → get_elem? views j ≡ some u)
        → length ws ≡ length s.words → ((d : ℕ) → d ≢ c → get_or ws d 0 ≡ get_or s.words d 0)
        → length hs ≡ length s.homes → ((d : ℕ) (p : Bool) → d ≢ c → get_elem? hs (slot_of d p) ≡ get_elem? s.homes (slot_of d p))
        → (c < length s.words → CellOk nothing Put k r.table (get_or ws c 0) (λ p. get_elem? hs (slot_of c p)) ph)
        → Seated nothing Put k r.table views c ph
        → Kept nothing Put k record { words = ws; homes = hs; views = views }
    moves s r id v gone c ph ws hs views next at old mine keep parties same up near some_row only new kept len words hlen homes here seat = record {
      table = r.table;
      next = next;
      maker_seat = r.maker_seat;
      cells = put r.cells c ph;
      sized = hlen ∙ r.sized ∙ ap (λ n. 2 * n) (sym len);
      each_view = λ j u e. ⊎_elim (λ x. x) (λ (x : (¬ gone j) × (get_elem? s.views j ≡ some u)). stays_fit r.table r.cells c ph r.next next r.maker_seat (length s.views) (length views) gone j u keep (λ p h i. parties j p h i x.0) same x.0 u.role (no_fresh s r id v at old j u x.1) (r.each_view j u x.1)) (new j u e);
      each_cell = λ d lt. at_put r.cells c ph (λ q p. q < length s.words → CellOk nothing Put k r.table (get_or ws q 0) (λ b. get_elem? hs (slot_of q b)) p) d here
          (λ n l. subst (λ (y : ℕ × (Bool → maybe.Option (maybe.Option X))). CellOk nothing Put k r.table y.0 y.1 (r.cells d)) (λ i. (sym (words d n) i, λ b. sym (homes d b n) i)) (r.each_cell d l)) (subst (λ n. d < n) len lt);
      each_seat = λ d. at_put r.cells c ph (λ q p. Seated nothing Put k r.table views q p) d seat (λ n. seated_else r.table s.views views gone d (λ j u g e is. n (sym is ∙ mine j u g e)) kept (r.cells d) (r.each_seat d));
      made = λ d lt. at_put r.cells c ph (λ q p. q < next → p ≢ unmade) d (λ _. some_row) (λ n f. r.made d (only d n f)) lt;
      not_made = λ d far. at_put r.cells c ph (λ q p. next ≤ q → p ≡ unmade) d (λ f. absurd (omega arith)) (λ n f. r.not_made d (omega arith)) far;
    }

    -- one seat moves, and with it one cell
    pub moves_one : (s : State X (View K)) (r : Kept nothing Put k s) (id : ℕ) (v w : View K) (ph : Row) (ws : List ℕ) (hs : List (maybe.Option X)) → get_elem? s.views id ≡ some v → v.role ≢ Fresh
        → Stays (λ j. j ≡ id) (r.cells v.cell) ph → ((j : ℕ) (p h : Bool) (i : List ℕ) → j ≢ id → HasParty nothing Put k r.table j p h i (r.cells v.cell) → HasParty nothing Put k r.table j p h i ph)
        → r.cells v.cell ≢ unmade → ph ≢ unmade
        → Fits nothing Put k r.table (put r.cells v.cell ph) r.next r.maker_seat (length (set s.views id w)) id w w.role
        → length ws ≡ length s.words → ((d : ℕ) → d ≢ v.cell → get_or ws d 0 ≡ get_or s.words d 0)
        → length hs ≡ length s.homes → ((d : ℕ) (p : Bool) → d ≢ v.cell → get_elem? hs (slot_of d p) ≡ get_elem? s.homes (slot_of d p))
        → (v.cell < length s.words → CellOk nothing Put k r.table (get_or ws v.cell 0) (λ p. get_elem? hs (slot_of v.cell p)) ph)
        → Seated nothing Put k r.table (set s.views id w) v.cell ph
        → Kept nothing Put k record { words = ws; homes = hs; views = set s.views id w }
    moves_one s r id v w ph ws hs at old keep parties made some_row fits len words hlen homes here seat =
        moves s r id v (λ j. j ≡ id) v.cell ph ws hs (set s.views id w) r.next at old (λ j u g e. ap (λ (x : View K). x.cell) (some-injective u v (sym e ∙ ap (get_elem? s.views) g ∙ at))) keep parties (inl refl) (omega arith) (lt_of_not-le (λ h. made (r.not_made v.cell h))) some_row (λ d _ lt. lt)
        (λ j u e. ⊎_elim (λ (x : (j ≡ id) × (w ≡ u)). inl (subst (λ (y : ℕ × View K). Fits nothing Put k r.table (put r.cells v.cell ph) r.next r.maker_seat (length (set s.views id w)) y.0 y.1 y.1.role) (λ i. (sym x.0 i, x.1 i)) fits))
        (λ (x : (j ≢ id) × (get_elem? s.views j ≡ some u)). inr x) (at_set s.views id j w u e))
        (λ j u n e. set_else s.views id j w n ∙ e) len words hlen homes here seat
