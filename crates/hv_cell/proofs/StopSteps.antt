-- Each step on the stop table keeps its rule.
use Rattle.std.proofs.Common.{◌≡◌, ℕ, ◌+◌, ◌≢◌, Bool, true, false, List, [], ◌∷◌, ◌++◌, length, get_or, set, sym, refl, ap, ◌∙◌, subst, ⊎_elim, arith}
use Rattle.std.specs.Prelude.{◌||◌, Option, Some}
use lib.Bits.{bit_or}
use mathlib.Core.Option.{some}
use lib.ListN.{get_elem?}
use Rattle.atomic_table.specs.Table.{State, keeps, Allows, Splits, opening}
use Rattle.atomic_table.specs.Seated.{TableId}
use Rattle.atomic_table.proofs.Lists.{at_set, at_snoc, set_again}
use Rattle.hv_cell.specs.declared.stop_view.StopRole.{StopRole}
use Rattle.hv_cell.specs.declared.stop_view.StopRole.TheVariants.{Fresh, Maker, Watching, Spent}
use Rattle.hv_cell.specs.declared.stop_view.StopView.{StopView}
use Rattle.hv_cell.specs.declared.why.Reasons.{Reasons}
use Rattle.hv_cell.specs.declared.why.Why.{Why}
use Rattle.hv_cell.specs.declared.why.Why.TheVariants.{Finished, NoMemory}
use Rattle.hv_cell.specs.Tokens.{Home, no_table, naming}
use Rattle.hv_cell.specs.Reasons.{no_reason, only, both, has, Within, bit_of, coded, word_of, reasons_in}
use Rattle.hv_cell.specs.StopRule.{making, watching, fresh, Fits, Stops, Sat, named, newcomer, looked, stopped}
use Rattle.hv_cell.proofs.Lists.{below, alone}
use Rattle.hv_lemmas.proofs.Bools.{or_left}

or_bit : (f m : Bool) (why : Why) → bit_or (coded f m) (bit_of why) ≡ word_of (both record { finished = f; no_memory = m } (only why))
or_bit false false Finished = refl
or_bit false false NoMemory = refl
or_bit true false Finished = refl
or_bit true false NoMemory = refl
or_bit false true Finished = refl
or_bit false true NoMemory = refl
or_bit true true Finished = refl
or_bit true true NoMemory = refl

pub bit_is : (why : Why) → reasons_in (bit_of why) ≡ only why
bit_is Finished = refl
bit_is NoMemory = refl

pub within_both : (a b : Reasons) → Within a (both a b)
within_both a b Finished e = or_left a.finished b.finished e
within_both a b NoMemory e = or_left a.no_memory b.no_memory e

or_true : (a : Bool) → (a || true) ≡ true
or_true false = refl
or_true true = refl

pub has_own : (a : Reasons) (why : Why) → has why (both a (only why)) ≡ true
has_own a Finished = or_true a.finished
has_own a NoMemory = or_true a.no_memory

none_within : (b : Reasons) → Within no_reason b
none_within b Finished e = absurd (cc)
none_within b NoMemory e = absurd (cc)

module _ {K : Type 0} where
  -- what holds of each view does so after the view at `id` became w
  all_set : (F : ℕ → StopView K → Type 0) (views : List (StopView K)) (id : ℕ) (w : StopView K) → F id w → ((j : ℕ) (v : StopView K) → j ≢ id → get_elem? views j ≡ some v → F j v) → (j : ℕ) (v : StopView K) → get_elem? (set views id w) j ≡ some v → F j v
  all_set F views id w mine others j v e = ⊎_elim (λ (x : (j ≡ id) × (w ≡ v)). subst (λ (y : ℕ × StopView K). F y.0 y.1) (λ i. (sym x.0 i, x.1 i)) mine)
      (λ (x : (j ≢ id) × (get_elem? views j ≡ some v)). others j v x.0 x.1) (at_set views id j w v e)

  -- the word may get more bits, and more seats may come where no view is fresh
  grows : (k : K) (z : TableId) (bits bits' : Reasons) (seat n n' j : ℕ) (v : StopView K) → Within bits bits' → (r : StopRole) → r ≢ Fresh → Fits k z bits seat n j v r → Fits k z bits' seat n' j v r
  grows k z bits bits' seat n n' j v up Fresh old x = absurd (old refl)
  grows k z bits bits' seat n n' j v up Maker old x = x
  grows k z bits bits' seat n n' j v up Watching old x = (x.0, λ why h. up why (x.1 why h))
  grows k z bits bits' seat n n' j v up Spent old x = tt

  -- where some seat has a view that is not fresh, none has
  no_fresh : (k : K) (s : State (Unit {0}) (StopView K)) (r : Stops k s) (id : ℕ) (u : StopView K) → get_elem? s.views id ≡ some u → u.role ≢ Fresh → (j : ℕ) (v : StopView K) → get_elem? s.views j ≡ some v → v.role ≢ Fresh
  no_fresh k s r id u at old j v e is = old (ap (λ (x : StopView K). x.role) (alone s.views id j u v (subst (Fits k r.table r.bits r.maker_seat (length s.views) j v) is (r.each_view j v e)).1 at e) ∙ is)

  pub opens : (k : K) → Stops k (opening (0 ∷ []) [] (fresh k))
  opens k = record {
    table = no_table;
    bits = no_reason;
    maker_seat = 0;
    word = refl;
    each_view = λ j v e. subst (λ (x : StopView K). Fits k no_table no_reason 0 1 j x x.role) (alone (fresh k ∷ []) 0 j (fresh k) v refl refl e) (refl, refl);
  }

  pub names : (k : K) (z : TableId) (n id : ℕ) → Allows (Stops k) n id (fresh k, []) 0 (λ x. x) (λ _ m. named z (fresh k, []) m)
  names k z n id s r wide at _ = let one : length s.views ≡ 1 = (r.each_view id (fresh k) at).1 in let w : StopView K = making k z in (
    w,
    keeps,
    tt,
    record {
      table = z;
      bits = r.bits;
      maker_seat = id;
      word = ap (λ ws. set ws 0 (get_or ws 0 0)) r.word;
      each_view = all_set (λ j v. Fits k z r.bits id (length (set s.views id w)) j v v.role) s.views id w (refl, refl)
          (λ j v other e. absurd (other (let p = below s.views j v e in let q = below s.views id (fresh k) at in omega arith)));
    },
    refl,
  )

  pub makes : (k : K) (z : TableId) (id : ℕ) → Splits (Stops k) id (making k z) (making k z) (newcomer (making k z))
  makes k z id s r at = let u : StopView K = making k z in let w : StopView K = watching no_reason no_reason 0 k z in
      let here : u ≡ making k r.table = (r.each_view id u at).0 in let same : z ≡ r.table = ap (λ (v : StopView K). v.of.table_id) here in
      let old : u.role ≢ Fresh = λ h. cc in let vs : List (StopView K) = set s.views id u in let is : vs ≡ s.views = set_again s.views id u at in record {
        table = r.table;
        bits = r.bits;
        maker_seat = r.maker_seat;
        word = r.word;
        each_view = λ j v e. ⊎_elim (λ x. let before = subst (λ (l : List (StopView K)). get_elem? l j ≡ some v) is x in
            grows k r.table r.bits r.bits r.maker_seat (length s.views) (length (vs ++ w ∷ [])) j v (λ why h. h) v.role (no_fresh k s r id u at old j v before) (r.each_view j v before))
            (λ (x : w ≡ v). subst (λ (y : StopView K). Fits k r.table r.bits r.maker_seat (length (vs ++ w ∷ [])) j y y.role) x (ap (watching no_reason no_reason 0 k) same, none_within r.bits))
            (at_snoc vs w v j e);
      }

  -- one watch sees more, and the word may have more bits
  steps : (k : K) (s : State (Unit {0}) (StopView K)) (r : Stops k s) (id : ℕ) (v : StopView K) (ws : List ℕ) (bits seen asked : Reasons) (n : ℕ) → get_elem? s.views id ≡ some v → v.role ≢ Fresh → ws ≡ word_of bits ∷ []
      → Within r.bits bits → Within seen bits → Stops k record { words = ws; homes = s.homes; views = set s.views id (watching seen asked n k r.table) }
  steps k s r id v ws bits seen asked n at old is up sees = let w : StopView K = watching seen asked n k r.table in record {
    table = r.table;
    bits = bits;
    maker_seat = r.maker_seat;
    word = is;
    each_view = all_set (λ j u. Fits k r.table bits r.maker_seat (length (set s.views id w)) j u u.role) s.views id w (refl, sees)
        (λ j u other e. grows k r.table r.bits bits r.maker_seat (length s.views) (length (set s.views id w)) j u up u.role (no_fresh k s r id v at old j u e) (r.each_view j u e));
  }

  pub looks : (k : K) (z : TableId) (seen asked : Reasons) (x n id : ℕ) → Allows (Stops k) n id (watching seen asked x k z, []) 0 (λ y. y) (looked (watching seen asked x k z, []))
  looks k z seen asked x n id s r wide at _ = let u : StopView K = watching seen asked x k z in let fits = r.each_view id u at in let same : r.table ≡ z = sym (ap (λ (v : StopView K). v.of.table_id) fits.0) in (
    watching r.bits asked (x + 1) k r.table,
    keeps,
    tt,
    steps k s r id u (set s.words 0 (get_or s.words 0 0)) r.bits r.bits asked (x + 1) at (λ h. cc) (ap (λ ws. set ws 0 (get_or ws 0 0)) r.word) (λ why h. h) (λ why h. h),
    (r.bits, ap (λ ws. get_or ws 0 0) r.word, ap (λ (t : TableId). (watching r.bits asked (x + 1) k t, [])) same, fits.1),
  )

  pub stops : (k : K) (z : TableId) (seen asked : Reasons) (x n id : ℕ) (why : Why) → Allows (Stops k) n id (watching seen asked x k z, []) 0 (λ y. bit_or y (bit_of why)) (stopped (bit_of why) (watching seen asked x k z, []))
  stops k z seen asked x n id why s r wide at _ = let u : StopView K = watching seen asked x k z in let fits = r.each_view id u at in let same : r.table ≡ z = sym (ap (λ (v : StopView K). v.of.table_id) fits.0) in
      let bits : Reasons = both r.bits (only why) in let mine : Reasons = both asked (only why) in (
        watching bits mine x k r.table,
        keeps,
        tt,
        steps k s r id u (set s.words 0 (bit_or (get_or s.words 0 0) (bit_of why))) bits bits mine x at (λ h. cc)
            (ap (λ ws. set ws 0 (bit_or (get_or ws 0 0) (bit_of why))) r.word ∙ ap (λ y. y ∷ []) (or_bit r.bits.finished r.bits.no_memory why)) (within_both r.bits (only why)) (λ why h. h),
        (r.bits, ap (λ ws. get_or ws 0 0) r.word, (λ i. (watching (both r.bits (sym (bit_is why) i)) (both asked (sym (bit_is why) i)) x k (same i), [])), fits.1),
      )

  -- the same, for a caller that knows its seat by equations
  pub names_me : (k : K) (z : TableId) (n id : ℕ) (me : Sat K) → me ≡ (fresh k, []) → Allows (Stops k) n id me 0 (λ x. x) (λ _ m. named z me m)
  names_me k z n id me is = subst (λ (y : Sat K). Allows (Stops k) n id y 0 (λ x. x) (λ _ m. named z y m)) (sym is) (names k z n id)

  pub makes_me : (k : K) (z : TableId) (id : ℕ) (v : StopView K) → v ≡ making k z → Splits (Stops k) id v v (newcomer v)
  makes_me k z id v is = subst (λ (y : StopView K). Splits (Stops k) id y y (newcomer y)) (sym is) (makes k z id)

  pub looks_me : (k : K) (z : TableId) (seen asked : Reasons) (x n id : ℕ) (me : Sat K) → me ≡ (watching seen asked x k z, []) → Allows (Stops k) n id me 0 (λ y. y) (looked me)
  looks_me k z seen asked x n id me is = subst (λ (y : Sat K). Allows (Stops k) n id y 0 (λ m. m) (looked y)) (sym is) (looks k z seen asked x n id)

  pub stops_me : (k : K) (z : TableId) (seen asked : Reasons) (x n id bit : ℕ) (why : Why) (me : Sat K) → bit ≡ bit_of why → me ≡ (watching seen asked x k z, []) → Allows (Stops k) n id me 0 (λ y. bit_or y bit) (stopped bit me)
  stops_me k z seen asked x n id bit why me b is = subst (λ (y : ℕ × Sat K). Allows (Stops k) n id y.1 0 (λ m. bit_or m y.0) (stopped y.0 y.1)) (λ i. (sym b i, sym is i)) (stops k z seen asked x n id why)

  -- what a watch's seat knows, once the watch is open
  pub watch_is : (me : Sat K) (k key : K) (t z : TableId) (h : Home K) → me ≡ (watching me.0.seen me.0.asked me.0.looks k t, []) → record { table = t; kin = me.0.kin } ≡ h → h ≡ record { table = z; kin = Some key } → me ≡ (watching me.0.seen me.0.asked me.0.looks key z, [])
  watch_is me k key t z h is home own = let e = home ∙ own in let table : t ≡ z = ap (λ (y : Home K). y.table) e in
      let kin : Some k ≡ Some key = sym (ap (λ (m : Sat K). m.0.kin) is) ∙ ap (λ (y : Home K). y.kin) e in
      is ∙ ap (λ (y : Option K × TableId). (record { role = Watching; seen = me.0.seen; asked = me.0.asked; looks = me.0.looks; kin = y.0; of = naming y.1 }, [])) (λ i. (kin i, table i))
