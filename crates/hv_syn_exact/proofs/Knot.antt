-- With every room for brackets, the parsers right inside a bracket are exact, and so is that of programs.
use Rattle.std.proofs.Common.{◌≡◌, ℕ, zero, suc, subst}
use Rattle.hv_tree.specs.Tokens.{Tokens, Ors}
use Rattle.hv_tree.specs.Grammar.{IsLevel, AreStmts}
use Rattle.hv_tree.specs.Refusal.{most_open}
use Rattle.hv_syn_grammar.specs.Expressions.{Inner, begins_step, disjunction, place}
use Rattle.hv_syn_grammar.specs.Statements.{not_closing, stmts}
use Rattle.hv_syn_grammar.specs.Declarations.{inner, program, begins_decl}
use Rattle.hv_syn_exact.proofs.Exact.{Exact}
use Rattle.hv_syn_exact.proofs.Inner.{InnerExact, on_expr, IsPlace}
use Rattle.hv_syn_exact.proofs.Beginnings.{level_begins, some_block}
use Rattle.hv_syn_exact.proofs.TypeRules.{type_exact}
use Rattle.hv_syn_exact.proofs.StepRules.{place_exact, call_exact, placed_block_exact, block_exact}
use Rattle.hv_syn_exact.proofs.LevelRules.{disjunction_exact}
use Rattle.hv_syn_exact.proofs.Parts.{Parts}
use Rattle.hv_syn_exact.proofs.StmtLists.{stmts_exact}
use Rattle.hv_syn_exact.proofs.DeclRules.{decls_exact}
use Rattle.hv_syn_exact.specs.Outcomes.{Outcome}
use Rattle.hv_syn_exact.proofs.Programs.{program_outcome}

parts : (d : ℕ) (i : Inner) → InnerExact d i → Parts d i
parts d i h = record {
  type = type_exact d;
  expr = disjunction_exact d i h;
  place = place_exact d i h;
  call = call_exact d i h;
  placed_block = placed_block_exact d i h;
  block = block_exact d i h;
  inner = h;
  begins = level_begins;
}

all_exact : (d : ℕ) → InnerExact d (inner d)
all_exact zero = record { expr = λ n is. absurd (cc); place = λ n is. absurd (cc); stmts = λ n is. absurd (cc) }
all_exact (suc d) = record {
  expr = λ n is. let e : d ≡ n = cc in subst (λ n. Exact n n on_expr (IsLevel Ors) (disjunction d (inner d))) e (disjunction_exact d (inner d) (all_exact d));
  place = λ n is. let e : d ≡ n = cc in subst (λ n. Exact n n begins_step IsPlace (place d (inner d))) e (place_exact d (inner d) (all_exact d));
  stmts = λ n is. let e : d ≡ n = cc in subst (λ n. Exact n n not_closing AreStmts (stmts d (inner d))) e (stmts_exact d (inner d) (parts d (inner d) (all_exact d)));
}

pub outcome : (ts : Tokens) → Outcome ts (program most_open ts)
outcome ts = program_outcome begins_decl (decls_exact most_open some_block (block_exact most_open (inner most_open) (all_exact most_open))) ts
