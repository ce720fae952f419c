-- What stands right inside a bracket of a type.
use Rattle.std.proofs.Common.{◌≡◌, ℕ, zero, suc, ◌-◌, ◌<◌, true, false, ap, sym, arith}
use Rattle.std.specs.Prelude.{if◌then◌else◌, codes}
use Rattle.hv_tree.specs.Tokens.{Tokens}
use Rattle.hv_syn_grammar.specs.Parser.{passes}
use Rattle.hv_syn_grammar.specs.Lexemes.{is_keyword}
use Rattle.hv_syn_grammar.specs.Signatures as sig

pub inner_type : (d : ℕ) (ts : Tokens) → 0 < d → (sig.inner_types d).type ts ≡ sig.type (d - 1) (sig.inner_types (d - 1)) ts
inner_type zero ts h = absurd (omega arith)
inner_type (suc d) ts h = let e : suc d - 1 ≡ d = omega arith in ap (λ d. sig.type d (sig.inner_types d) ts) (sym e)

pub inner_list : (d : ℕ) (ts : Tokens) → 0 < d → (sig.inner_types d).types ts ≡ sig.types (d - 1) (sig.inner_types (d - 1)) ts
inner_list zero ts h = absurd (omega arith)
inner_list (suc d) ts h = let e : suc d - 1 ≡ d = omega arith in ap (λ d. sig.types d (sig.inner_types d) ts) (sym e)

pub type_function : (d : ℕ) (i : sig.InnerTypes) (ts : Tokens) → passes (is_keyword (codes "fun")) ts ≡ true → sig.type d i ts ≡ sig.function_type d i ts
unfolding sig.type
type_function d i ts e = ap (λ b. if b then sig.function_type d i ts else sig.result_type d i ts) e

pub type_other : (d : ℕ) (i : sig.InnerTypes) (ts : Tokens) → passes (is_keyword (codes "fun")) ts ≡ false → sig.type d i ts ≡ sig.result_type d i ts
unfolding sig.type
type_other d i ts e = ap (λ b. if b then sig.function_type d i ts else sig.result_type d i ts) e
