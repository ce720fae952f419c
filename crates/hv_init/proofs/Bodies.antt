-- The first violation of several bodies.
use Rattle.std.proofs.Common.{◌≡◌, ◌⊎◌, inl, inr, ℕ, ◌+◌, ◌<◌, List, [], ◌∷◌, ◌++◌, map, length, get_or, take, Option, None, sym, ap, subst, ◌∙◌}
use Rattle.std.proofs.lemmas.List.{take_more, map-append}
use Rattle.hv_tree.specs.declared.refusal.Refusal.{Refusal}
use Rattle.hv_tree.specs.Core.{Core}
use Rattle.hv_tree.specs.Earlier.{IsEarlier, IsFirst}
use Rattle.hv_decls.specs.Locals.{CoreBody}
use Rattle.hv_scope.specs.declared.bodies.Body.{Body}
use Rattle.hv_scope.specs.Bodies.{body_by}
use Rattle.hv_flow_pass.proofs.Firsts.{same_first}
use Rattle.hv_excl.proofs.Firsts.{first_of}
use Rattle.hv_init_cells.specs.Law.{IsViolatedBy, IsViolatedAmong}

module _ (tree : Core) where
  pub none_among : IsFirst (IsViolatedAmong tree []) None
  none_among = λ r h. h

  one_more : (b : CoreBody) (bs : List CoreBody) (r : Refusal) → IsViolatedAmong tree bs r ⊎ IsViolatedBy tree b r → IsViolatedAmong tree (bs ++ b ∷ []) r
  one_more b [] r (inl h) = absurd h
  one_more b [] r (inr h) = inl h
  one_more b (c ∷ bs) r (inl (inl h)) = inl h
  one_more b (c ∷ bs) r (inl (inr h)) = inr (one_more b bs r (inl h))
  one_more b (c ∷ bs) r (inr h) = inr (one_more b bs r (inr h))

  moved : (b c : CoreBody) (bs : List CoreBody) (r : Refusal) → IsViolatedAmong tree bs r ⊎ IsViolatedBy tree b r → IsViolatedAmong tree (c ∷ bs) r ⊎ IsViolatedBy tree b r
  moved b c bs r (inl h) = inl (inr h)
  moved b c bs r (inr h) = inr h

  or_last : (b : CoreBody) (bs : List CoreBody) (r : Refusal) → IsViolatedAmong tree (bs ++ b ∷ []) r → IsViolatedAmong tree bs r ⊎ IsViolatedBy tree b r
  or_last b [] r (inl h) = inr h
  or_last b [] r (inr h) = absurd h
  or_last b (c ∷ bs) r (inl h) = inl (inl h)
  or_last b (c ∷ bs) r (inr h) = moved b c bs r (or_last b bs r h)

  -- one body more
  more_among : (b : CoreBody) (bs : List CoreBody) (v w u : Option Refusal) → IsFirst (IsViolatedAmong tree bs) v → IsFirst (IsViolatedBy tree b) w → IsEarlier v w u → IsFirst (IsViolatedAmong tree (bs ++ b ∷ [])) u
  more_among b bs v w u h g e =
      same_first (λ r. IsViolatedAmong tree bs r ⊎ IsViolatedBy tree b r) (IsViolatedAmong tree (bs ++ b ∷ [])) u (one_more b bs) (or_last b bs) (first_of (IsViolatedAmong tree bs) (IsViolatedBy tree b) v w u h g e)

  -- the first of the front of a list, and one body more
  pub turn : (bodies : List Body) (i : ℕ) (b : Body) (v w u : Option Refusal) → i < length bodies → b ≡ get_or bodies i b → IsFirst (IsViolatedAmong tree (map body_by (take i bodies))) v → IsFirst (IsViolatedBy tree (body_by b)) w → IsEarlier v w u →
      IsFirst (IsViolatedAmong tree (map body_by (take (i + 1) bodies))) u
  turn bodies i b v w u l e h g f =
      let taken : take (i + 1) bodies ≡ take i bodies ++ b ∷ [] = take_more bodies i b l ∙ ap (λ (z : Body). take i bodies ++ z ∷ []) (sym e) in
      subst (λ (bs : List CoreBody). IsFirst (IsViolatedAmong tree bs) u) (sym (ap (map body_by) taken ∙ map-append body_by (take i bodies) (b ∷ []))) (more_among (body_by b) (map body_by (take i bodies)) v w u h g f)
