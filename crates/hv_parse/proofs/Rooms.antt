-- What stands right inside a bracket, by the room there.
use Rattle.std.proofs.Common.{◌≡◌, ℕ, zero, suc, ◌-◌, ◌<◌, refl, arith}
use Rattle.hv_syn_grammar.specs.Declarations.{inner, expr_at_room, place_at_room, stmts_at_room}
use Rattle.hv_tree.specs.Tokens.{Tokens}

pub inner_expr : (room : ℕ) (ts : Tokens) → 0 < room → (inner room).expr ts ≡ expr_at_room (room - 1) ts
unfolding expr_at_room
inner_expr zero ts below = absurd (omega arith)
inner_expr (suc d) ts below = let e : suc d - 1 ≡ d = omega arith in rw e refl

pub inner_place : (room : ℕ) (ts : Tokens) → 0 < room → (inner room).place ts ≡ place_at_room (room - 1) ts
unfolding place_at_room
inner_place zero ts below = absurd (omega arith)
inner_place (suc d) ts below = let e : suc d - 1 ≡ d = omega arith in rw e refl

pub inner_stmts : (room : ℕ) (ts : Tokens) → 0 < room → (inner room).stmts ts ≡ stmts_at_room (room - 1) ts
unfolding stmts_at_room
inner_stmts zero ts below = absurd (omega arith)
inner_stmts (suc d) ts below = let e : suc d - 1 ≡ d = omega arith in rw e refl
