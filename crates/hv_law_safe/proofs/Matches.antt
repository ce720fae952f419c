-- States in which locals and lent references hold values of their types.
use Rattle.std.proofs.Common.{◌≡◌, ◌≢◌, ◌⊎◌, inl, inr, ℕ, zero, suc, ◌+◌, ◌<◌, List, [], ◌∷◌, ◌++◌, get_or, length, Option, Some, arith, refl, sym, ap, ◌∙◌, subst}
use Rattle.std.specs.List.{slice_get}
use Rattle.std.proofs.lemmas.Option.{slice_get_within}
use Rattle.hv_tree.specs.declared.place.Place.{Place}
use Rattle.hv_tree.specs.Core.{Core}
use Rattle.hv_decls.specs.Types.{ValueType}
use Rattle.hv_decls.specs.Locals.{LocalKind, Captured, Passed, VarBound, LetBound, InoutBound, Handle, Local, CoreBody, entry_locals, locals_of, in_block, value_by}
use Rattle.hv_value.specs.ValueTree.{ValueTree, Hole, Parts}
use Rattle.hv_value.specs.Places.{put}
use Rattle.hv_value.specs.Walk.{Reached, walk}
use Rattle.hv_sem_copying.specs.Ops.{Target, Spot, Mode, Reads, Value, Lent}
use Rattle.hv_sem_copying.specs.Ops as ops
use Rattle.hv_sem_copying.specs.Calls.{passed_captures}
use Rattle.hv_sem_copying.specs.Copying.{Locals, tree_at, change_at, with_tree, at_spot, written, without, callee_trees, entering, returned, copying}
use Rattle.hv_lemmas.proofs.Members.{Among}
use Rattle.hv_law_safe.proofs.Ends.{Does, Finds, looks}
use Rattle.hv_law_formed.proofs.Fits.{Fits, FitLocals, locals_none, locals_more}
use Rattle.hv_law_formed.proofs.Ways.{LinksFit, Arrives, arrives, falls_out, walks}
use Rattle.hv_law_safe.proofs.Lists.{get_left, at_among, Distinct, numbered}

pub record Matches (tree : Core) (body : CoreBody) (visible : List Local) (refs : List ValueType) (e : Locals) : Type 0 where
  -- each visible local has a value of its type
  pub here : (l : Local) (x : ℕ) (t : ValueType) → Among visible l → slice_get (locals_of body) x ≡ Some l → value_by l.kind l.ty ≡ Some t → Fits tree t (tree_at e x)
  -- and so has each reference that is in use, from the number of locals on
  pub lent : (i : ℕ) (t : ValueType) → slice_get refs i ≡ Some t → Fits tree t (tree_at e (length (locals_of body) + i))

-- ---- trees by their numbers

changed_there : (us : List ValueTree) (x : ℕ) (t : ValueTree) → get_or (change_at us x t) x Hole ≡ t
changed_there [] zero t = refl
changed_there [] (suc x) t = changed_there [] x t
changed_there (u ∷ us) zero t = refl
changed_there (u ∷ us) (suc x) t = changed_there us x t

changed_elsewhere : (us : List ValueTree) (x y : ℕ) (t : ValueTree) → y ≢ x → get_or (change_at us x t) y Hole ≡ get_or us y Hole
changed_elsewhere [] zero zero t n = absurd (n refl)
changed_elsewhere [] zero (suc y) t n = refl
changed_elsewhere [] (suc x) zero t n = refl
changed_elsewhere [] (suc x) (suc y) t n = changed_elsewhere [] x y t (λ e. n (ap suc e))
changed_elsewhere (u ∷ us) zero zero t n = absurd (n refl)
changed_elsewhere (u ∷ us) zero (suc y) t n = refl
changed_elsewhere (u ∷ us) (suc x) zero t n = refl
changed_elsewhere (u ∷ us) (suc x) (suc y) t n = changed_elsewhere us x y t (λ e. n (ap suc e))

same_or_not : (x y : ℕ) → (x ≡ y) ⊎ (x ≢ y)
same_or_not zero zero = inl refl
same_or_not zero (suc y) = inr (λ e. cc)
same_or_not (suc x) zero = inr (λ e. cc)
same_or_not (suc x) (suc y) = by (same_or_not x y)
  where
    by : (x ≡ y) ⊎ (x ≢ y) → (suc x ≡ suc y) ⊎ (suc x ≢ suc y)
    by (inl e) = inl (ap suc e)
    by (inr n) = inr (λ e. n cc)

pub one_number : (ls : List Local) (x y : ℕ) (l : Local) → Distinct ls → slice_get ls x ≡ Some l → slice_get ls y ≡ Some l → x ≡ y
one_number ls x y l d e f = let g : Some x ≡ Some y = sym (numbered ls x l d e) ∙ numbered ls y l d f in cc

pub value_typed : (k : LocalKind) (o : Option ValueType) (t : ValueType) → value_by k o ≡ Some t → o ≡ Some t
value_typed Captured o t e = e
value_typed (Passed c) o t e = e
value_typed VarBound o t e = e
value_typed LetBound o t e = e
value_typed InoutBound o t e = e
value_typed Handle o t e = cc

-- ---- changes of one tree

module _ {tree : Core} {body : CoreBody} {refs : List ValueType} where
  -- a local's tree is another one, and so are perhaps the locals that are visible
  pub changed : {visible after : List Local} {e : Locals} (x : ℕ) (v : ValueTree) → x < length (locals_of body) → Matches tree body visible refs e →
      ((m : Local) (y : ℕ) (u : ValueType) → Among after m → slice_get (locals_of body) y ≡ Some m → value_by m.kind m.ty ≡ Some u → ((y ≡ x) × Fits tree u v) ⊎ ((y ≢ x) × Among visible m)) →
      Matches tree body after refs (with_tree e x v)
  changed {visible = visible} {after = after} {e = e} x v within m each = record { here = here; lent = lent }
    where
      here : (l : Local) (y : ℕ) (t : ValueType) → Among after l → slice_get (locals_of body) y ≡ Some l → value_by l.kind l.ty ≡ Some t → Fits tree t (get_or (change_at e.trees x v) y Hole)
      here l y t i at typed = by (each l y t i at typed)
        where
          by : ((y ≡ x) × Fits tree t v) ⊎ ((y ≢ x) × Among visible l) → Fits tree t (get_or (change_at e.trees x v) y Hole)
          by (inl (q, f)) = subst (Fits tree t) (sym (ap (λ z. get_or (change_at e.trees x v) z Hole) q ∙ changed_there e.trees x v)) f
          by (inr (n, j)) = subst (Fits tree t) (sym (changed_elsewhere e.trees x y v n)) (m.here l y t j at typed)

      lent : (i : ℕ) (t : ValueType) → slice_get refs i ≡ Some t → Fits tree t (get_or (change_at e.trees x v) (length (locals_of body) + i) Hole)
      lent i t at = subst (Fits tree t) (sym (changed_elsewhere e.trees x (length (locals_of body) + i) v (λ q. omega (arith, q)))) (m.lent i t at)

  pub forgets : {visible : List Local} {e : Locals} (l : Local) → Matches tree body (l ∷ visible) refs e → Matches tree body visible refs e
  forgets l m = record { here = λ k x t i. m.here k x t (inr i); lent = m.lent }

  -- a local is declared with a value of its type
  pub declares : {visible : List Local} {e : Locals} (l : Local) (x : ℕ) (t : ValueType) (v : ValueTree) → Distinct (locals_of body) → slice_get (locals_of body) x ≡ Some l → l.ty ≡ Some t → Fits tree t v → Matches tree body visible refs e → Matches tree body (l ∷ visible) refs (with_tree e x v)
  declares {visible = visible} l x t v d at ty f m = changed x v (slice_get_within (locals_of body) x l at) m (λ k y u i there typed. by k y u i there typed (same_or_not y x))
    where
      by : (k : Local) (y : ℕ) (u : ValueType) → Among (l ∷ visible) k → slice_get (locals_of body) y ≡ Some k → value_by k.kind k.ty ≡ Some u → (y ≡ x) ⊎ (y ≢ x) → ((y ≡ x) × Fits tree u v) ⊎ ((y ≢ x) × Among visible k)
      by k y u i there typed (inl q) =
          let is : Some k ≡ Some l = sym there ∙ (ap (slice_get (locals_of body)) q ∙ at) in
          let same : k ≡ l = cc in
          let types : Some t ≡ Some u = sym ty ∙ (sym (ap (λ (j : Local). j.ty) same) ∙ value_typed k.kind k.ty u typed) in
          let type_is : t ≡ u = cc in
          inl (q, subst (λ z. Fits tree z v) type_is f)
      by k y u (inl is) there typed (inr n) = absurd (n (one_number (locals_of body) y x k d there (at ∙ ap Some is)))
      by k y u (inr i) there typed (inr n) = inr (n, i)

  -- a local that isn't visible any more is cleared
  pub clears : {visible : List Local} {e : Locals} (x : ℕ) → x < length (locals_of body) → ((m : Local) (y : ℕ) → Among visible m → slice_get (locals_of body) y ≡ Some m → y ≢ x) → Matches tree body visible refs e → Matches tree body visible refs (without e x)
  clears x within away m = changed x Hole within m (λ k y u i there typed. inr (away k y i there, i))

  -- a visible local gets another value of its type
  pub puts_in : {visible : List Local} {e : Locals} (l : Local) (x : ℕ) (t : ValueType) (v : ValueTree) → slice_get (locals_of body) x ≡ Some l → value_by l.kind l.ty ≡ Some t → Fits tree t v → Matches tree body visible refs e → Matches tree body visible refs (with_tree e x v)
  puts_in {visible = visible} l x t v at ty f m = changed x v (slice_get_within (locals_of body) x l at) m (λ k y u i there typed. by k y u i there typed (same_or_not y x))
    where
      by : (k : Local) (y : ℕ) (u : ValueType) → Among visible k → slice_get (locals_of body) y ≡ Some k → value_by k.kind k.ty ≡ Some u → (y ≡ x) ⊎ (y ≢ x) → ((y ≡ x) × Fits tree u v) ⊎ ((y ≢ x) × Among visible k)
      by k y u i there typed (inl q) =
          let is : Some k ≡ Some l = sym there ∙ (ap (slice_get (locals_of body)) q ∙ at) in
          let same : k ≡ l = cc in
          let types : Some t ≡ Some u = sym ty ∙ (sym (ap (λ (j : Local). value_by j.kind j.ty) same) ∙ typed) in
          let type_is : t ≡ u = cc in
          inl (q, subst (λ z. Fits tree z v) type_is f)
      by k y u i there typed (inr n) = inr (n, i)

-- ---- references

last_or : {A : Type 0} (xs : List A) (a : A) (i : ℕ) (b : A) → slice_get (xs ++ a ∷ []) i ≡ Some b → (slice_get xs i ≡ Some b) ⊎ ((i ≡ length xs) × (a ≡ b))
last_or [] a zero b e = inr (refl, cc)
last_or [] a (suc i) b e = cc
last_or (x ∷ xs) a zero b e = inl e
last_or (x ∷ xs) a (suc i) b e = by (last_or xs a i b e)
  where
    by : (slice_get xs i ≡ Some b) ⊎ ((i ≡ length xs) × (a ≡ b)) → (slice_get xs i ≡ Some b) ⊎ ((suc i ≡ suc (length xs)) × (a ≡ b))
    by (inl f) = inl f
    by (inr (f, g)) = inr (ap suc f, g)

module _ {tree : Core} {body : CoreBody} {visible : List Local} where
  -- one more reference stands for a value
  pub lends : {refs : List ValueType} {e : Locals} (t : ValueType) (v : ValueTree) → Fits tree t v → Matches tree body visible refs e → Matches tree body visible (refs ++ t ∷ []) (with_tree e (length (locals_of body) + length refs) v)
  lends {refs = refs} {e = e} t v f m = record { here = here; lent = λ i u at. by i u (last_or refs t i u at) }
    where
      r : ℕ
      r = length (locals_of body) + length refs

      here : (l : Local) (y : ℕ) (u : ValueType) → Among visible l → slice_get (locals_of body) y ≡ Some l → value_by l.kind l.ty ≡ Some u → Fits tree u (get_or (change_at e.trees (length (locals_of body) + length refs) v) y Hole)
      here l y u i at typed =
          let w : y < length (locals_of body) = slice_get_within (locals_of body) y l at in
          subst (Fits tree u) (sym (changed_elsewhere e.trees (length (locals_of body) + length refs) y v (λ q. omega (arith, q, w)))) (m.here l y u i at typed)

      by : (i : ℕ) (u : ValueType) → (slice_get refs i ≡ Some u) ⊎ ((i ≡ length refs) × (t ≡ u)) → Fits tree u (get_or (change_at e.trees (length (locals_of body) + length refs) v) (length (locals_of body) + i) Hole)
      by i u (inl at) =
          let w : i < length refs = slice_get_within refs i u at in
          subst (Fits tree u) (sym (changed_elsewhere e.trees (length (locals_of body) + length refs) (length (locals_of body) + i) v (λ q. omega (arith, q, w)))) (m.lent i u at)
      by i u (inr (q, same)) =
          subst (Fits tree u) (sym (ap (λ j. get_or (change_at e.trees (length (locals_of body) + length refs) v) (length (locals_of body) + j) Hole) q ∙ changed_there e.trees (length (locals_of body) + length refs) v)) (subst (λ z. Fits tree z v) same f)

  -- the last reference is closed
  pub gives_back : {refs : List ValueType} {e : Locals} (t : ValueType) → Matches tree body visible (refs ++ t ∷ []) e → Matches tree body visible refs (without e (length (locals_of body) + length refs))
  gives_back {refs = refs} {e = e} t m = record { here = here; lent = lent }
    where
      here : (l : Local) (y : ℕ) (u : ValueType) → Among visible l → slice_get (locals_of body) y ≡ Some l → value_by l.kind l.ty ≡ Some u → Fits tree u (get_or (change_at e.trees (length (locals_of body) + length refs) Hole) y Hole)
      here l y u i at typed =
          let w : y < length (locals_of body) = slice_get_within (locals_of body) y l at in
          subst (Fits tree u) (sym (changed_elsewhere e.trees (length (locals_of body) + length refs) y Hole (λ q. omega (arith, q, w)))) (m.here l y u i at typed)

      lent : (i : ℕ) (u : ValueType) → slice_get refs i ≡ Some u → Fits tree u (get_or (change_at e.trees (length (locals_of body) + length refs) Hole) (length (locals_of body) + i) Hole)
      lent i u at =
          let w : i < length refs = slice_get_within refs i u at in
          subst (Fits tree u) (sym (changed_elsewhere e.trees (length (locals_of body) + length refs) (length (locals_of body) + i) Hole (λ q. omega (arith, q, w)))) (m.lent i u (get_left refs (t ∷ []) i u at))

  -- a reference in use gets another value of its type
  pub puts_back : {refs : List ValueType} {e : Locals} (k : ℕ) (t : ValueType) (v : ValueTree) → slice_get refs k ≡ Some t → Fits tree t v → Matches tree body visible refs e → Matches tree body visible refs (with_tree e (length (locals_of body) + k) v)
  puts_back {refs = refs} {e = e} k t v there f m = record { here = here; lent = λ i u at. by i u at (same_or_not i k) }
    where
      here : (l : Local) (y : ℕ) (u : ValueType) → Among visible l → slice_get (locals_of body) y ≡ Some l → value_by l.kind l.ty ≡ Some u → Fits tree u (get_or (change_at e.trees (length (locals_of body) + k) v) y Hole)
      here l y u i at typed =
          let w : y < length (locals_of body) = slice_get_within (locals_of body) y l at in
          subst (Fits tree u) (sym (changed_elsewhere e.trees (length (locals_of body) + k) y v (λ q. omega (arith, q, w)))) (m.here l y u i at typed)

      by : (i : ℕ) (u : ValueType) → slice_get refs i ≡ Some u → (i ≡ k) ⊎ (i ≢ k) → Fits tree u (get_or (change_at e.trees (length (locals_of body) + k) v) (length (locals_of body) + i) Hole)
      by i u at (inl q) =
          let types : Some t ≡ Some u = sym there ∙ (ap (slice_get refs) (sym q) ∙ at) in
          let same : t ≡ u = cc in
          subst (Fits tree u) (sym (ap (λ j. get_or (change_at e.trees (length (locals_of body) + k) v) (length (locals_of body) + j) Hole) q ∙ changed_there e.trees (length (locals_of body) + k) v)) (subst (λ z. Fits tree z v) same f)
      by i u at (inr n) = subst (Fits tree u) (sym (changed_elsewhere e.trees (length (locals_of body) + k) (length (locals_of body) + i) v (λ q. n (omega (arith, q))))) (m.lent i u at)

-- ---- places

-- a value of the type stands there, and another one may be put there
pub record IsPlace (tree : Core) (body : CoreBody) (visible : List Local) (refs : List ValueType) (u : ValueType) (f : Spot × ValueTree) (e : Locals) : Type 0 where
  pub matches : Matches tree body visible refs e
  pub there : at_spot e f.0 ≡ Some f.1
  pub fits : Fits tree u f.1
  pub puts : (w : ValueTree) → Fits tree u w → Matches tree body visible refs (written e f.0 w)

pub finds_place : {tree : Core} {body : CoreBody} {visible : List Local} {refs : List ValueType} {n : ℕ} {t u : ValueType} (l : Local) (target : Target) → Among visible l → slice_get (locals_of body) target.root ≡ Some l → value_by l.kind l.ty ≡ Some t → LinksFit tree t target.links u →
    Does n (Matches tree body visible refs) (IsPlace tree body visible refs u) (copying.look target)
finds_place {tree = tree} {body = body} {visible = visible} {refs = refs} {t = t} {u = u} l target i at typed fit =
    looks target (λ e m. by e m (walk target.links (tree_at e target.root)) (walks (tree_at e target.root) fit (m.here l target.root t i at typed)))
  where
    by : (e : Locals) → Matches tree body visible refs e → (r : Reached Place) → Arrives tree t u (tree_at e target.root) r → Finds target (IsPlace tree body visible refs u) e r
    by e m r (arrives {p = p} {w = w} f g puts) = record { matches = m; there = g; fits = f; puts = λ x h. puts_in l target.root t (put (tree_at e target.root) p x) at typed (puts x h) m }
    by e m r falls_out = tt

-- ---- calls

-- what is passed are values of the types of these locals; a reference is one in use
pub data PassedFit (tree : Core) (base : ℕ) (refs : List ValueType) : List Local → List ops.Passed → Type 0 where
  none_passed : PassedFit tree base refs [] []
  value_passed : {l : Local} {ls : List Local} {mode : Mode} {v : ValueTree} {ps : List ops.Passed} (t : ValueType) → l.ty ≡ Some t → Fits tree t v → PassedFit tree base refs ls ps → PassedFit tree base refs (l ∷ ls) (Value mode v ∷ ps)
  lent_passed : {l : Local} {ls : List Local} {r : ℕ} {ps : List ops.Passed} (t : ValueType) (i : ℕ) → l.ty ≡ Some t → slice_get refs i ≡ Some t → r ≡ base + i → PassedFit tree base refs ls ps → PassedFit tree base refs (l ∷ ls) (Lent r ∷ ps)

pub passed_more : {tree : Core} {base : ℕ} {refs : List ValueType} {ls ms : List Local} {ps qs : List ops.Passed} → PassedFit tree base refs ls ps → PassedFit tree base refs ms qs → PassedFit tree base refs (ls ++ ms) (ps ++ qs)
passed_more none_passed k = k
passed_more (value_passed t e f h) k = value_passed t e f (passed_more h k)
passed_more (lent_passed t i e at r h) k = lent_passed t i e at r (passed_more h k)

pub passed_still : {tree : Core} {base : ℕ} {refs : List ValueType} {ls : List Local} {ps : List ops.Passed} (t : ValueType) → PassedFit tree base refs ls ps → PassedFit tree base (refs ++ t ∷ []) ls ps
passed_still t none_passed = none_passed
passed_still t (value_passed u e f h) = value_passed u e f (passed_still t h)
passed_still {refs = refs} t (lent_passed u i e at r h) = lent_passed u i e (get_left refs (t ∷ []) i u at) r (passed_still t h)

pub captures_passed : {tree : Core} {ls : List Local} {vs : Parts} (base : ℕ) (refs : List ValueType) → FitLocals tree ls vs → PassedFit tree base refs ls (passed_captures vs)
captures_passed base refs locals_none = none_passed
captures_passed base refs (locals_more t e f h) = value_passed t e f (captures_passed base refs h)

module _ {tree : Core} {body : CoreBody} {visible : List Local} {refs : List ValueType} where
  -- the trees with which a callee begins
  first_fits : {ls : List Local} {ps : List ops.Passed} (e : Locals) (i : ℕ) (l : Local) (t : ValueType) → Matches tree body visible refs e → PassedFit tree (length (locals_of body)) refs ls ps → slice_get ls i ≡ Some l → l.ty ≡ Some t → Fits tree t (get_or (callee_trees e ps) i Hole)
  first_fits e i l t m none_passed at ty = cc
  first_fits e zero l t m (value_passed {l = k} {v = v} u q f h) at ty =
      let same : k ≡ l = cc in
      let types : Some u ≡ Some t = sym q ∙ (ap (λ (j : Local). j.ty) same ∙ ty) in
      let type_is : u ≡ t = cc in
      subst (λ z. Fits tree z v) type_is f
  first_fits e (suc i) l t m (value_passed u q f h) at ty = first_fits e i l t m h at ty
  first_fits e zero l t m (lent_passed {l = k} {r = r} u j q there is h) at ty =
      let same : k ≡ l = cc in
      let types : Some u ≡ Some t = sym q ∙ (ap (λ (j : Local). j.ty) same ∙ ty) in
      let type_is : u ≡ t = cc in
      subst (λ z. Fits tree z (tree_at e r)) type_is (subst (λ x. Fits tree u (tree_at e x)) (sym is) (m.lent j u there))
  first_fits e (suc i) l t m (lent_passed u j q there is h) at ty = first_fits e i l t m h at ty

  pub enters : {ps : List ops.Passed} (e : Locals) (callee : CoreBody) → Distinct (locals_of callee) → PassedFit tree (length (locals_of body)) refs (entry_locals callee) ps → Matches tree body visible refs e → Matches tree callee (entry_locals callee) [] (entering e ps)
  enters {ps = ps} e callee d p m = record { here = here; lent = λ i t at. cc }
    where
      here : (l : Local) (x : ℕ) (t : ValueType) → Among (entry_locals callee) l → slice_get (locals_of callee) x ≡ Some l → value_by l.kind l.ty ≡ Some t → Fits tree t (get_or (callee_trees e ps) x Hole)
      here l x t i at typed =
          let r = at_among (entry_locals callee) l i in
          let same : r.0 ≡ x = one_number (locals_of callee) r.0 x l d (get_left (entry_locals callee) (in_block callee.block) r.0 l r.1) at in
          subst (λ y. Fits tree t (get_or (callee_trees e ps) y Hole)) same (first_fits e r.0 l t m p r.1 (value_typed l.kind l.ty t typed))

  -- what references stand for at the callee's end
  pub comes_back : {ls : List Local} {ps : List ops.Passed} (e callee : Locals) (i : ℕ) → PassedFit tree (length (locals_of body)) refs ls ps → ((j : ℕ) (l : Local) (t : ValueType) → slice_get ls j ≡ Some l → l.ty ≡ Some t → Fits tree t (tree_at callee (i + j))) → Matches tree body visible refs e → Matches tree body visible refs (returned i e ps callee)
  comes_back e callee i none_passed all m = m
  comes_back e callee i (value_passed t q f h) all m =
      comes_back e callee (suc i) h (λ j l u at ty. let n : suc i + j ≡ i + suc j = omega arith in subst (λ y. Fits tree u (tree_at callee y)) (sym n) (all (suc j) l u at ty)) m
  comes_back e callee i (lent_passed {l = k} {r = r} t x q there is h) all m =
      let n : i + 0 ≡ i = omega arith in
      let first : Fits tree t (tree_at callee i) = subst (λ y. Fits tree t (tree_at callee y)) n (all 0 k t refl q) in
      comes_back (with_tree e r (tree_at callee i)) callee (suc i) h
      (λ j l u at ty. let n : suc i + j ≡ i + suc j = omega arith in subst (λ y. Fits tree u (tree_at callee y)) (sym n) (all (suc j) l u at ty))
      (subst (λ y. Matches tree body visible refs (with_tree e y (tree_at callee i))) (sym is) (puts_back x t (tree_at callee i) there first m))
