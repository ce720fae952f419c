use Rattle.std.proofs.Common.{◌≡◌, ◌+◌, ◌*◌, rules, sym, ap, ◌∙◌}
use Rattle.std.specs.Prelude.{not}
use Rattle.hv_cell.specs.declared.cell_view.Held.TheVariants.{Nothing}
use Rattle.hv_cell.specs.CellRule.{IsPut, side_number, slot_of, bit_of}
use Rattle.hv_cell.specs.Heads.{task_in}
use Rattle.hv_cell.proofs.Arriving.{takes_me, comes_me, resets_me}
use Rattle.hv_cell.proofs.Opened.{first_is, held_me, turned_me, holds_own, taken_me}
use Rattle.hv_cell.proofs.bring.bring.Goals as goal

pub load-requires : goal.load-requires
load-requires g c = let J = g.P.Joined in let t = c.args.grid.now in let put = IsPut J.done_id J.done_kin J.awaits J.stack_kin J.tokens in
    let s = c.into_seat-seat in let b = c.args.badge in
    let is = first_is _ _ (sym s.ensures.2 ∙ c.requires.role) in
    (search rules, search rules, takes_me Nothing put t.key b.table_id t.table_id.words _ c.args.cell _ g.W.Sided.side (task_in b.views) _ (search rules) (search rules) (λ l. (is l, s.ensures.3 l)))

pub fetch_or-found-requires : goal.fetch_or-found-requires
fetch_or-found-requires g c = let J = g.P.Joined in let t = c.args.grid.now in let put = IsPut J.done_id J.done_kin J.awaits J.stack_kin J.tokens in
    let s = c.into_seat-seat in let b = c.args.badge in let p = g.W.Sided.side in
    let is = first_is _ _ (sym s.ensures.2 ∙ c.requires.role) in
    let mine : 2 * c.args.cell + c.side.result ≡ slot_of c.args.cell p = ap (λ n. 2 * c.args.cell + n) (c.side.ensures ∙ ap side_number c.requires.side) in (
      search rules,
      search rules,
      comes_me Nothing put t.key b.table_id t.table_id.words _ c.args.cell _ _ p (task_in b.views) c.args.value _ (search rules) (search rules) (c.bit.ensures ∙ ap bit_of c.requires.side) c.requires.value
          (held_me Nothing c.args.value _ _ _ c.args.cell _ p (task_in b.views) t.key b.table_id (λ l. (is l, s.ensures.3 l)) c.load.ensures.2 c.exchange-before.ensures.3 mine),
    )

pub exchange-mine-requires : goal.exchange-mine-requires
exchange-mine-requires g c = let J = g.P.Joined in let t = c.args.grid.now in let put = IsPut J.done_id J.done_kin J.awaits J.stack_kin J.tokens in
    let s = c.into_seat-seat in let b = c.args.badge in let p = g.W.Sided.side in
    let is = first_is _ _ (sym s.ensures.2 ∙ c.requires.role) in
    let mine : 2 * c.args.cell + c.side.result ≡ slot_of c.args.cell p = ap (λ n. 2 * c.args.cell + n) (c.side.ensures ∙ ap side_number c.requires.side) in
    let other : 2 * c.args.cell + c.side-2.result ≡ slot_of c.args.cell (not p) = ap (λ n. 2 * c.args.cell + n) (c.side-2.ensures ∙ ap (λ q. side_number (not q)) c.requires.side) in
    let held = held_me Nothing c.args.value _ _ _ c.args.cell _ p (task_in b.views) t.key b.table_id (λ l. (is l, s.ensures.3 l)) c.load.ensures.2 c.exchange-before.ensures.3 mine in
    let got = turned_me put Nothing c.args.value _ _ _ _ c.args.cell _ _ p (task_in b.views) t.key b.table_id held c.fetch_or-found.ensures.2 (c.if-found-bit.false ∙ (c.bit-2.ensures ∙ ap (λ q. bit_of (not q)) c.requires.side)) c.exchange-theirs.ensures.3 c.turn.ensures.2 other in
    (search rules, holds_own Nothing c.args.value _ _ _ _ _ got.3 mine)

pub swap-requires : goal.swap-requires
swap-requires g c = let J = g.P.Joined in let t = c.args.grid.now in let put = IsPut J.done_id J.done_kin J.awaits J.stack_kin J.tokens in
    let s = c.into_seat-seat in let b = c.args.badge in let p = g.W.Sided.side in
    let is = first_is _ _ (sym s.ensures.2 ∙ c.requires.role) in
    let mine : 2 * c.args.cell + c.side.result ≡ slot_of c.args.cell p = ap (λ n. 2 * c.args.cell + n) (c.side.ensures ∙ ap side_number c.requires.side) in
    let other : 2 * c.args.cell + c.side-2.result ≡ slot_of c.args.cell (not p) = ap (λ n. 2 * c.args.cell + n) (c.side-2.ensures ∙ ap (λ q. side_number (not q)) c.requires.side) in
    let held = held_me Nothing c.args.value _ _ _ c.args.cell _ p (task_in b.views) t.key b.table_id (λ l. (is l, s.ensures.3 l)) c.load.ensures.2 c.exchange-before.ensures.3 mine in
    let got = turned_me put Nothing c.args.value _ _ _ _ c.args.cell _ _ p (task_in b.views) t.key b.table_id held c.fetch_or-found.ensures.2 (c.if-found-bit.false ∙ (c.bit-2.ensures ∙ ap (λ q. bit_of (not q)) c.requires.side)) c.exchange-theirs.ensures.3 c.turn.ensures.2 other in
    let end = taken_me Nothing c.args.value got.0 _ _ _ _ _ _ _ _ _ _ got.2 got.3 c.exchange-theirs.ensures.2 c.exchange-mine.ensures.2 c.exchange-mine.ensures.3 mine in
    (search rules, search rules, resets_me Nothing put t.key b.table_id t.table_id.words _ c.args.cell _ p (task_in b.views) _ (search rules) (search rules) end.2)
