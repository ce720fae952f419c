use Rattle.std.proofs.Common.{◌≡◌, ◌∷◌, [], ◌++◌, ℕ, List, map, length, Some, sym, ap, ◌∙◌, Bor}
use Rattle.std.proofs.lemmas.List.{map-append, length-map}
use Rattle.std.proofs.lemmas.Map.Text.{hash_map_updates_str}
use Rattle.hv_symbols.specs.Texts.{index_of}
use Rattle.hv_symbols.proofs.Indexes.{gone, stays, same_place, other_place}
use Rattle.hv_symbols.proofs.texts.Texts.pop.Goals as goal

pub invariant_of-self-then-eq : goal.invariant_of-self-then-eq
invariant_of-self-then-eq c = λ q.
    let texts : List (List ℕ) = map (λ (s : Bor (List ℕ)). s.now) c.pop.new.self.items in
    let items : map (λ (s : Bor (List ℕ)). s.now) c.self.inside.list.items ≡ texts ++ c.in-Some.text.now ∷ [] = ap (map (λ (s : Bor (List ℕ)). s.now)) c.in-Some.ensures.items ∙ map-append _ c.pop.new.self.items (c.in-Some.text ∷ []) in
    let size : c.len-place.result ≡ length texts = c.len-place.ensures ∙ c.pop.new.self.ok.0 ∙ sym (length-map c.pop.new.self.items (λ (s : Bor (List ℕ)). s.now)) in
    let found : index_of (texts ++ c.in-Some.text.now ∷ []) c.in-Some.text.now ≡ c.copied.result = ap (λ l. index_of l c.in-Some.text.now) (sym items) ∙ sym (c.self.invariant c.in-Some.text.now) ∙ sym c.get.ensures.value ∙ sym c.copied.ensures in
    gone texts c.in-Some.text.now q _ _ (found ∙ same_place c.copied.result c.len-place.result (sym c.eq.ensures ∙ c.if-eq.true) ∙ ap Some size) (c.self.invariant q ∙ ap (λ l. index_of l q) items) (hash_map_updates_str c.in-Some.text.now c.self.inside.firsts c.remove.new.self _ c.remove.ensures.updates q)

pub invariant_of-self-else-eq : goal.invariant_of-self-else-eq
invariant_of-self-else-eq c = λ q.
    let texts : List (List ℕ) = map (λ (s : Bor (List ℕ)). s.now) c.pop.new.self.items in
    let items : map (λ (s : Bor (List ℕ)). s.now) c.self.inside.list.items ≡ texts ++ c.in-Some.text.now ∷ [] = ap (map (λ (s : Bor (List ℕ)). s.now)) c.in-Some.ensures.items ∙ map-append _ c.pop.new.self.items (c.in-Some.text ∷ []) in
    let size : c.len-place.result ≡ length texts = c.len-place.ensures ∙ c.pop.new.self.ok.0 ∙ sym (length-map c.pop.new.self.items (λ (s : Bor (List ℕ)). s.now)) in
    let found : index_of (texts ++ c.in-Some.text.now ∷ []) c.in-Some.text.now ≡ c.copied.result = ap (λ l. index_of l c.in-Some.text.now) (sym items) ∙ sym (c.self.invariant c.in-Some.text.now) ∙ sym c.get.ensures.value ∙ sym c.copied.ensures in
    c.self.invariant q ∙ ap (λ l. index_of l q) items ∙ stays texts c.in-Some.text.now q (λ h. other_place c.copied.result c.len-place.result (sym c.eq.ensures ∙ c.if-eq.false) (sym found ∙ h ∙ ap Some (sym size)))
