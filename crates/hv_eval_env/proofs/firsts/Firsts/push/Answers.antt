use Rattle.std.proofs.Common.{◌≡◌, true, false, length, is_some, sym, ap, ◌∙◌}
use Rattle.hv_eval_env.specs.Firsts.{first_place}
use Rattle.hv_eval_env.proofs.PlaceLemmas.{kept, added}
use Rattle.hv_eval_env.proofs.firsts.Firsts.push.Goals as goal

pub invariant_of-self-then-contains_key : goal.invariant_of-self-then-contains_key
invariant_of-self-then-contains_key c = λ q.
    let there : is_some (first_place c.self.inside.list.items c.args.number) ≡ true = ap is_some (sym (c.self.invariant c.args.number)) ∙ sym c.contains_key.ensures ∙ c.if-contains_key.true in
    c.self.invariant q ∙ sym (kept c.self.inside.list.items c.args.number q there) ∙ ap (λ l. first_place l q) (sym c.in_ok-push.ensures.items)

pub invariant_of-self-in-Ok-insert : goal.invariant_of-self-in-Ok-insert
invariant_of-self-in-Ok-insert c = λ q.
    let missing : is_some (first_place c.self.inside.list.items c.args.number) ≡ false = ap is_some (sym (c.self.invariant c.args.number)) ∙ sym c.contains_key.ensures ∙ c.if-contains_key.false in
    let size : c.in-Ok.place ≡ length c.self.inside.list.items = c.in-Ok.ensures.1 ∙ c.len.ensures ∙ c.self.inside.list.ok.0 in
    added c.self.inside.list.items c.args.number q c.in-Ok.place _ _ size missing (c.self.invariant q) (c.in-Ok-insert.ensures.updates.0 q) ∙ ap (λ l. first_place l q) (sym c.in_ok-push.ensures.items)
