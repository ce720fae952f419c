use Rattle.std.proofs.Common.{◌≡◌, ◌∷◌, [], ◌++◌, ℕ, List, true, false, map, length, is_some, sym, ap, ◌∙◌, Bor}
use Rattle.std.proofs.lemmas.List.{map-append, length-map}
use Rattle.std.proofs.lemmas.Map.Text.{hash_map_updates_str}
use Rattle.hv_symbols.specs.Texts.{index_of, has}
use Rattle.hv_symbols.proofs.Indexes.{kept, added}
use Rattle.hv_symbols.proofs.texts.Texts.push.Goals as goal

pub invariant_of-self-then-contains_key : goal.invariant_of-self-then-contains_key
invariant_of-self-then-contains_key c = λ q.
    let texts : List (List ℕ) = map (λ (s : Bor (List ℕ)). s.now) c.self.inside.list.items in
    let items : map (λ (s : Bor (List ℕ)). s.now) c.push.new.self.items ≡ texts ++ c.args.text.now ∷ [] = ap (map (λ (s : Bor (List ℕ)). s.now)) c.in_ok-push.ensures.items ∙ map-append _ c.self.inside.list.items (c.args.text ∷ []) in
    let there : has texts c.args.text.now ≡ true = ap is_some (sym (c.self.invariant c.args.text.now)) ∙ sym c.contains_key.ensures ∙ c.if-contains_key.true in
    c.self.invariant q ∙ sym (kept texts c.args.text.now q there) ∙ ap (λ l. index_of l q) (sym items)

pub invariant_of-self-in-Ok : goal.invariant_of-self-in-Ok
invariant_of-self-in-Ok c = λ q.
    let texts : List (List ℕ) = map (λ (s : Bor (List ℕ)). s.now) c.self.inside.list.items in
    let items : map (λ (s : Bor (List ℕ)). s.now) c.push.new.self.items ≡ texts ++ c.args.text.now ∷ [] = ap (map (λ (s : Bor (List ℕ)). s.now)) c.in_ok-push.ensures.items ∙ map-append _ c.self.inside.list.items (c.args.text ∷ []) in
    let missing : has texts c.args.text.now ≡ false = ap is_some (sym (c.self.invariant c.args.text.now)) ∙ sym c.contains_key.ensures ∙ c.if-contains_key.false in
    let size : c.len-place.result ≡ length texts = c.len-place.ensures ∙ c.self.inside.list.ok.0 ∙ sym (length-map c.self.inside.list.items (λ (s : Bor (List ℕ)). s.now)) in
    added texts c.args.text.now q c.len-place.result _ _ size missing (c.self.invariant q) (hash_map_updates_str c.args.text.now c.self.inside.firsts c.insert.new.self _ c.in-Ok.ensures.updates q) ∙ ap (λ l. index_of l q) (sym items)
