-- What a token's seat knows, once the token is open.
use Rattle.std.proofs.Common.{◌≡◌, ℕ, Bool, true, false, List, [], ◌∷◌, sym, ap, ◌∙◌, subst}
use Rattle.std.specs.Prelude.{Some, not}
use Rattle.atomic_table.specs.Table.{Me, rest, turned}
use Rattle.atomic_table.specs.Seated.{TableId}
use Rattle.hv_cell.specs.declared.cell_view.Role.{Role}
use Rattle.hv_cell.specs.declared.cell_view.View.{View}
use Rattle.hv_cell.specs.declared.cell_view.Role.TheVariants.{Party, Claim}
use Rattle.hv_cell.specs.CellPlays.{took, came}
use Rattle.hv_cell.specs.CellRule.{view, slot_of, bit_of}
use Rattle.hv_cell.specs.Heads.{kin_in}
use Rattle.hv_cell.specs.Tokens.{Home, home_at}

module _ {K : Type 0} where
  some_is : (a b : K) → Some a ≡ Some b → a ≡ b
  some_is a b e = cc

  pub first_is : (a b : View K) → a ∷ [] ≡ b ∷ [] → a ≡ b
  first_is a b e = cc

  pub home_is : (z z' : TableId) (k k' : K) → z ≡ z' → k ≡ k' → home_at z' k' ≡ home_at z k
  home_is z z' k k' e f = λ i. home_at (sym e i) (sym f i)

  pub opened : (views : List (View K)) (u : View K) (r : Role) (c : ℕ) (i : List ℕ) (k key : K) (t z : TableId) (h : Home K) → views ≡ view r c i k t ∷ [] → views ≡ u ∷ [] → record { table = t; kin = kin_in views } ≡ h → h ≡ home_at z key → u ≡ view r c i key z
  opened views u r c i k key t z h is opens home own = let e = home ∙ own in
      let kin : k ≡ key = some_is k key (sym (ap kin_in is) ∙ ap (λ (y : Home K). y.kin) e) in let table : t ≡ z = ap (λ (y : Home K). y.table) e in
      first_is u (view r c i k t) (sym opens ∙ is) ∙ ap (λ (y : K × TableId). view r c i y.0 y.1) (λ l. (kin l, table l))

abbrev own_of : {X : Type 0} → X → List (ℕ × X) → X
own_of d [] = d
own_of d (h ∷ hs) = h.1

pair_is : {X : Type 0} (a b : ℕ) (x y : X) (xs ys : List (ℕ × X)) → (a, x) ∷ xs ≡ (b, y) ∷ ys → x ≡ y
pair_is a b x y xs ys e = ap (own_of x) e

module _ {X K : Type 0} where
  -- once a party has put its value
  pub held_me : (nothing x : X) (m0 m1 m2 : Me X (View K)) (c mine : ℕ) (p : Bool) (i : List ℕ) (k : K) (z : TableId) → m0 ≡ (view (Party p false) c i k z, []) → took p nothing m0 m1 → m2 ≡ (m1.0, (mine, x) ∷ rest m1.1) → mine ≡ slot_of c p
      → m2 ≡ (view (Party p true) c i k z, (slot_of c p, x) ∷ [])
  held_me nothing x m0 m1 m2 c mine p i k z e t f at = let is1 : m1 ≡ (view (Party p true) c i k z, (slot_of c p, nothing) ∷ []) = t ∙ ap (λ (m : Me X (View K)). (record m.0 { role = Party p true }, (slot_of m.0.cell p, nothing) ∷ m.1)) e in
      f ∙ ap (λ (y : Me X (View K) × ℕ). (y.0.0, (y.1, x) ∷ rest y.0.1)) (λ l. (is1 l, at l))

  -- once it came last, and emptied the other's slot
  pub turned_me : (Put : Bool → List ℕ → K → TableId → X → Type 0) (nothing x : X) (m2 m3 m4 m5 : Me X (View K)) (c other r : ℕ) (p : Bool) (i : List ℕ) (k : K) (z : TableId)
      → m2 ≡ (view (Party p true) c i k z, (slot_of c p, x) ∷ []) → came Put p m2 r m3 → r ≡ bit_of (not p)
      → m4 ≡ (m3.0, (other, nothing) ∷ rest m3.1) → m5 ≡ (m4.0, turned m4.1) → other ≡ slot_of c (not p)
      → (y : X) × Put (not p) i k z y × (m3 ≡ (view Claim c i k z, (slot_of c (not p), y) ∷ (slot_of c p, x) ∷ [])) × (m5 ≡ (view Claim c i k z, (slot_of c p, x) ∷ (slot_of c (not p), nothing) ∷ []))
  turned_me Put nothing x m2 m3 m4 m5 c other r p i k z e came_is late f4 f5 at' = let last = came_is.0 late in let y = last.0 in
      let is3 : m3 ≡ (view Claim c i k z, (slot_of c (not p), y) ∷ (slot_of c p, x) ∷ []) = last.3 ∙ ap (λ (m : Me X (View K)). (record m.0 { role = Claim }, (slot_of m.0.cell (not p), y) ∷ m.1)) e in
      let is4 : m4 ≡ (view Claim c i k z, (slot_of c (not p), nothing) ∷ (slot_of c p, x) ∷ []) = f4 ∙ ap (λ (w : Me X (View K) × ℕ). (w.0.0, (w.1, nothing) ∷ rest w.0.1)) (λ l. (is3 l, at' l)) in
      let kin : k ≡ last.1 = some_is k last.1 (sym (ap (λ (m : Me X (View K)). m.0.kin) e) ∙ last.2) in
      (y, subst (λ (w : K × List ℕ × TableId). Put (not p) w.1 w.0 w.2 y) (λ l. (sym kin l, ap (λ (m : Me X (View K)). m.0.id) e l, ap (λ (m : Me X (View K)). m.0.of.table_id) e l)) last.4, is3, f5 ∙ ap (λ (m : Me X (View K)). (m.0, turned m.1)) is4)

  pub holds_own : (nothing x : X) (m : Me X (View K)) (v : View K) (c d mine : ℕ) → m ≡ (v, (c, x) ∷ (d, nothing) ∷ []) → mine ≡ c → (y : X) × (m.1 ≡ (mine, y) ∷ rest m.1)
  holds_own nothing x m v c d mine e at = (x, subst (λ (w : Me X (View K)). w.1 ≡ (mine, x) ∷ rest w.1) (sym e) (ap (λ n. (n, x) ∷ (d, nothing) ∷ []) (sym at)))

  -- what each slot held, and the seat after both were emptied
  pub taken_me : (nothing x y theirs own : X) (m3 m5 m6 : Me X (View K)) (v : View K) (c d mine other : ℕ) → m3 ≡ (v, (d, y) ∷ (c, x) ∷ []) → m5 ≡ (v, (c, x) ∷ (d, nothing) ∷ []) → m3.1 ≡ (other, theirs) ∷ rest m3.1 → m5.1 ≡ (mine, own) ∷ rest m5.1 → m6 ≡ (m5.0, (mine, nothing) ∷ rest m5.1) → mine ≡ c
      → (own ≡ x) × (theirs ≡ y) × (m6 ≡ (v, (c, nothing) ∷ (d, nothing) ∷ []))
  taken_me nothing x y theirs own m3 m5 m6 v c d mine other is3 is5 t1 t2 f6 at = (
    pair_is _ _ _ _ _ _ (sym t2 ∙ ap (λ (m : Me X (View K)). m.1) is5),
    pair_is _ _ _ _ _ _ (sym t1 ∙ ap (λ (m : Me X (View K)). m.1) is3),
    f6 ∙ ap (λ (w : Me X (View K) × ℕ). (w.0.0, (w.1, nothing) ∷ rest w.0.1)) (λ l. (is5 l, at l)),
  )
