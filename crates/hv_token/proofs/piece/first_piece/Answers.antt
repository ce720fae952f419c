use Rattle.std.proofs.Common.{ℕ, List, take, subst, sym}
use Rattle.hv_token.specs.Cutting.{Parts}
use Rattle.hv_token.proofs.Taking.{takes}
use Rattle.hv_token.proofs.piece.first_piece.Goals as goal

pub split_at-requires : goal.split_at-requires
split_at-requires c = (takes c.args.text.now c.utf8.text c.in-Some.sort c.in-Some.len c.in-Some.ensures).boundary

pub returns : goal.returns
returns c =
    let whole = takes c.args.text.now c.utf8.text c.in-Some.sort c.in-Some.len c.in-Some.ensures in
    subst (λ (p : List ℕ). Parts c.args.text.now c.in-Some.sort p c.split_at.result.1.now) (sym c.split_at.ensures.front)
    (subst (λ (a : List ℕ). Parts c.args.text.now c.in-Some.sort (take c.in-Some.len c.args.text.now) a) (sym c.split_at.ensures.back) whole.parts)
