-- One more cell is asked.
use Rattle.std.proofs.Common.{◌≡◌, ℕ, suc, ◌+◌, Bool, true, false, List, ap, ◌∙◌, arith}
use Rattle.hv_tree.specs.declared.refusal.Refusal.{Refusal}
use Rattle.hv_flow_pass.specs.declared.asked.Asks.{Asks}
use Rattle.hv_flow_versions.specs.declared.cell.Cell.{Cell}
use Rattle.hv_flow_pass.specs.Cells.{kept_at, added, asked_if, asked_in}

asked_suc : (v : Bool) (r : Refusal) (cs : List Cell) (from n : ℕ) (asks : Asks) → asked_in v r cs from (n + 1) asks ≡ asked_in v r cs from (suc n) asks
asked_suc v r cs from n asks = let e : n + 1 ≡ suc n = omega arith in ap (λ (m : ℕ). asked_in v r cs from m asks) e

pub asked_more : (v : Bool) (r : Refusal) (cs : List Cell) (from n : ℕ) (asks : Asks) → kept_at cs (from + n) ≡ true →
    asked_in v r cs from (n + 1) asks ≡ added (record { cell = from + n; value = v; refusal = r }) (asked_in v r cs from n asks)
asked_more v r cs from n asks h =
    asked_suc v r cs from n asks ∙ ap (λ (b : Bool). asked_if b (record { cell = from + n; value = v; refusal = r }) (asked_in v r cs from n asks)) h

pub asked_same : (v : Bool) (r : Refusal) (cs : List Cell) (from n : ℕ) (asks : Asks) → kept_at cs (from + n) ≡ false → asked_in v r cs from (n + 1) asks ≡ asked_in v r cs from n asks
asked_same v r cs from n asks h =
    asked_suc v r cs from n asks ∙ ap (λ (b : Bool). asked_if b (record { cell = from + n; value = v; refusal = r }) (asked_in v r cs from n asks)) h
