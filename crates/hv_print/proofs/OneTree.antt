-- Tokens spell one program at most, however many brackets they open.
use Rattle.std.proofs.Common.{◌≡◌, ℕ, zero, suc, ◌+◌, ◌≤◌, Bool, true, false, List, [], ◌∷◌, length, length-append, Some, sym, ◌∙◌, ap, subst, append-nil, arith}
use Rattle.std.specs.Prelude.{if◌then◌else◌}
use Rattle.hv_tree.specs.declared.ast.Decl.{Decl}
use Rattle.hv_tree.specs.declared.ast.Tree.{Tree}
use Rattle.hv_tree.specs.Tokens.{Tokens, Ors}
use Rattle.hv_tree.specs.Grammar.{IsLevel, AreStmts, AreDecls, Spells}
use Rattle.hv_tree.specs.Refusal.{is_opening, is_closing}
use Rattle.hv_syn_grammar.specs.Parser.{Read, Got, Off, Deep}
use Rattle.hv_syn_grammar.specs.Room.{room, one_less, option_then}
use Rattle.hv_syn_grammar.specs.Expressions.{Inner, disjunction, place, begins_step}
use Rattle.hv_syn_grammar.specs.Statements.{not_closing, stmts}
use Rattle.hv_syn_grammar.specs.Declarations.{inner, decls, begins_decl}
use Rattle.hv_syn_exact.proofs.Exact.{Exact, Sound, Succeeds}
use Rattle.hv_syn_exact.proofs.Inner.{InnerExact, on_expr, IsPlace}
use Rattle.hv_syn_exact.proofs.Beginnings.{level_begins, some_block}
use Rattle.hv_syn_exact.proofs.TypeRules.{type_exact}
use Rattle.hv_syn_exact.proofs.StepRules.{place_exact, call_exact, placed_block_exact, block_exact}
use Rattle.hv_syn_exact.proofs.LevelRules.{disjunction_exact}
use Rattle.hv_syn_exact.proofs.Parts.{Parts}
use Rattle.hv_syn_exact.proofs.StmtLists.{stmts_exact}
use Rattle.hv_syn_exact.proofs.DeclRules.{decls_exact}

parts : (d : ℕ) (i : Inner) → InnerExact d i → Parts d i
parts d i h = record {
  type = type_exact d;
  expr = disjunction_exact d i h;
  place = place_exact d i h;
  call = call_exact d i h;
  placed_block = placed_block_exact d i h;
  block = block_exact d i h;
  inner = h;
  begins = level_begins;
}

all_exact : (d : ℕ) → InnerExact d (inner d)
all_exact zero = record { expr = λ n is. absurd (cc); place = λ n is. absurd (cc); stmts = λ n is. absurd (cc) }
all_exact (suc d) = record {
  expr = λ n is. let e : d ≡ n = cc in subst (λ n. Exact n n on_expr (IsLevel Ors) (disjunction d (inner d))) e (disjunction_exact d (inner d) (all_exact d));
  place = λ n is. let e : d ≡ n = cc in subst (λ n. Exact n n begins_step IsPlace (place d (inner d))) e (place_exact d (inner d) (all_exact d));
  stmts = λ n is. let e : d ≡ n = cc in subst (λ n. Exact n n not_closing AreStmts (stmts d (inner d))) e (stmts_exact d (inner d) (parts d (inner d) (all_exact d)));
}

whole_exact : (d : ℕ) → Exact d d begins_decl AreDecls (decls d)
whole_exact d = decls_exact d some_block (block_exact d (inner d) (all_exact d))

-- a token takes one of the room at most
room_falls : (d e : ℕ) (ts : Tokens) → room d ts ≡ Some e → d ≤ e + length ts
room_falls d e [] h = let same : d ≡ e = cc in omega (arith, same)
room_falls d e (k ∷ ts) h = by d (is_opening k) (is_closing k) h (λ n q. room_falls n e ts q)
  where
    by : (d : ℕ) (a b : Bool) → option_then (if a then one_less d else (if b then Some (suc d) else Some d)) (λ n. room n ts) ≡ Some e → ((n : ℕ) → room n ts ≡ Some e → n ≤ e + length ts) → d ≤ e + suc (length ts)
    by zero true b h ih = omega arith
    by (suc d) true b h ih = omega (arith, ih d h)
    by d false true h ih = omega (arith, ih (suc d) h)
    by d false false h ih = omega (arith, ih d h)

-- with more room than tokens
module _ (ts : Tokens) (a b : List Decl) where
  abbrev most : ℕ
  most = suc (length ts)

  by_read : (r : Read (List Decl)) → Sound most most AreDecls (decls most) r ts → Succeeds a [] r → Succeeds b [] r → a ≡ b
  by_read (Got c rest) s x y = x.0 ∙ sym y.0
  by_read (Off rest) s x y = absurd x
  by_read (Deep rest) s x y = let h = room_falls most 0 s.front s.full in absurd (omega (arith, h, ap length s.is, length-append s.front rest))

  reads_as : (c : List Decl) → AreDecls c ts → Succeeds c [] (decls most ts)
  reads_as c h = subst (λ l. Succeeds c [] (decls most l)) (append-nil ts) ((whole_exact most).whole c ts [] h tt)

  same_decls : AreDecls a ts → AreDecls b ts → a ≡ b
  same_decls x y = by_read (decls most ts) ((whole_exact most).sound ts) (reads_as a x) (reads_as b y)

abbrev tree_of : List Decl → Tree
tree_of ds = record { decls = ds }

pub one_tree : (ts : Tokens) (a b : Tree) → Spells a ts → Spells b ts → a ≡ b
one_tree ts a b x y = ap tree_of (same_decls ts a.decls b.decls x.decls y.decls)
