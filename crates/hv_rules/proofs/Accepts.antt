-- `fun main() { }` is accepted: it violates no rule anywhere.
use Rattle.std.proofs.Common.{◌≡◌, ◌⊎◌, inl, inr, ℕ, zero, suc, false, List, [], ◌∷◌, ◌++◌, map, None, Contains, refl, sym, subst, ap, ◌∙◌, codes, lit<, arith}
use Rattle.hv_tree.specs.declared.place.Place.{Place}
use Rattle.hv_tree.specs.declared.types.Name.{Name}
use Rattle.hv_tree.specs.declared.refusal.Rule.{Rule}
use Rattle.hv_tree.specs.declared.refusal.Rule.TheVariants as rule
use Rattle.hv_tree.specs.declared.ast.Tree.{Tree}
use Rattle.hv_tree.specs.declared.ast.Decl.TheVariants as decl
use Rattle.hv_tree.specs.declared.ast.Block.{Block, roll-Block, out-Block}
use Rattle.hv_tree.specs.declared.ast.Arg.TheViews.{the_lemmas}
use Rattle.hv_tree.specs.Tokens.{mark, keyword, word}
use Rattle.hv_tree.specs.Types as types
use Rattle.hv_tree.specs.Grammar.{Spells}
use Rattle.hv_tree.specs.Grammar as grammar
use Rattle.hv_tree.specs.Core.{Core, CoreDecl, FunOf, StructOf, CoreFun, CoreBlock, BlockOf, NoStmts, core_tree, core_block}
use Rattle.hv_tree.proofs.CoreLemmas.{opened_block}
use Rattle.hv_rules.specs.declared.event.FlowEvent.TheVariants as event
use Rattle.hv_decls.specs.Locals.{Local, CoreBody, fun_body, locals_of}
use Rattle.hv_decls.specs.Sites.{decl_bodies}
use Rattle.hv_type_rules.specs.Names.{Repeats, local_name, types_of_decl, names_in_all, SharesName, ViolatesN1, top_level, of_fields, in_body, shared, ViolatesN2, in_decl, in_type, as_used, as_captured, IsViolatedByNames}
use Rattle.hv_type_rules.specs.TypeRules.{IsViolatedByTypes, at_part, at_struct}
use Rattle.hv_rules.specs.Events.{Mark, ToEnd, body_events}
use Rattle.hv_rules.specs.States.{state_after}
use Rattle.hv_rules.specs.Rules.{Violates, IsViolatedIn, IsViolatedByEvents, at_task}
use Rattle.hv_rules.specs.Rules as rules
use Rattle.hv_rules.specs.Accepted.{IsViolated, IsAccepted}
use Rattle.hv_rules.proofs.Listed.{whole_listed}

-- ---- the program

abbrev at : ℕ → Place
at n = record { start = n }

abbrev main : Name
main = record { text = codes "main"; place = at 4 }

abbrev main_fun : CoreFun
main_fun = record { name = main; params = []; result = None; body = BlockOf NoStmts (at 13) }

abbrev core : Core
core = record { decls = FunOf main_fun ∷ [] }

-- ---- lists with one element or none

only : {A : Type 0} (a b : A) → Contains (a ∷ []) b → b ≡ a
only a b (zero, l, e) = sym e
only a b (suc k, l, e) = absurd (omega arith)

empty : {A : Type 0} (b : A) → Contains [] b → ⊥
empty b (k, l, e) = omega arith

none_repeats : (place : Place) → Repeats [] place → ⊥
none_repeats place r = by r.before r.again r.after r.is
  where
    by : (before : List Name) (again : Name) (after : List Name) → [] ≡ before ++ again ∷ after → ⊥
    by [] again after e = cc
    by (b ∷ before) again after e = cc

pub one_repeats : (n : Name) (place : Place) → Repeats (n ∷ []) place → ⊥
one_repeats n place r = by r.before r.again r.after r.is (λ e. alone r.before r.again e r.known)
  where
    by : (before : List Name) (again : Name) (after : List Name) → n ∷ [] ≡ before ++ again ∷ after → (before ≡ [] → ⊥) → ⊥
    by [] again after e not = not refl
    by (b ∷ []) again after e not = cc
    by (b ∷ (c ∷ before)) again after e not = cc

    alone : (before : List Name) (again : Name) → before ≡ [] → ((m : Name) × Contains before m × (m.text ≡ again.text)) → ⊥
    alone before again e (m, c, t) = empty m (subst (λ (names : List Name). Contains names m) e c)

-- ---- names

no_shared : (place : Place) → SharesName core place → ⊥
no_shared place s = by s.before s.decl s.after s.body s.local s.is s.of s.declared
  where
    in_main : (body : CoreBody) (local : Local) → body ≡ fun_body main_fun → Contains (locals_of body) local → ⊥
    in_main body local e c = empty local (subst (λ (b : CoreBody). Contains (locals_of b) local) e c)

    by : (before : List CoreDecl) (d : CoreDecl) (after : List CoreDecl) (body : CoreBody) (local : Local) → FunOf main_fun ∷ [] ≡ before ++ d ∷ after →
        Contains (decl_bodies (d ∷ [])) body → Contains (locals_of body) local → ⊥
    by [] d after body local e c i =
        let same : d ≡ FunOf main_fun = cc in
        in_main body local (only (fun_body main_fun) body (subst (λ (k : CoreDecl). Contains (decl_bodies (k ∷ [])) body) same c)) i
    by (b ∷ []) d after body local e c i = cc
    by (b ∷ (k ∷ before)) d after body local e c i = cc

no_n1 : (place : Place) → ViolatesN1 core place → ⊥
no_n1 place (top_level r) = one_repeats main place r
no_n1 place (of_fields s c r) = let e : StructOf s ≡ FunOf main_fun = only (FunOf main_fun) (StructOf s) c in cc
no_n1 place (in_body body c r) =
    let e : body ≡ fun_body main_fun = only (fun_body main_fun) body c in
    none_repeats place (subst (λ (b : CoreBody). Repeats (map local_name (locals_of b)) place) e r)
no_n1 place (shared s) = no_shared place s

no_n2 : (place : Place) → ViolatesN2 core place → ⊥
no_n2 place (in_decl d n c i s p) =
    let e : d ≡ FunOf main_fun = only (FunOf main_fun) d c in
    empty n (subst (λ (k : CoreDecl). Contains (names_in_all (types_of_decl k)) n) e i)
no_n2 place (in_type w n c i s p) = empty w c
no_n2 place (as_used w n c i s p) = empty w c
no_n2 place (as_captured w n c i s p) = empty w c

no_names : (r : Rule) (place : Place) → IsViolatedByNames core r place → ⊥
no_names rule.N1 place v = no_n1 place v
no_names rule.N2 place v = no_n2 place v
no_names rule.N3 place (not, e) = not (main_fun, (0, lit< tt, refl), refl, refl, refl)
no_names _ place v = v

-- ---- types

no_types : (r : Rule) (place : Place) → IsViolatedByTypes core r place → ⊥
no_types r place (at_part w c v) = empty w c
no_types r place (at_struct e (s, c, p, g)) = let k : StructOf s ≡ FunOf main_fun = only (FunOf main_fun) (StructOf s) c in cc

-- ---- events

abbrev body : CoreBody
body = fun_body main_fun

abbrev end : Mark
end = record { event = event.ScopeEnd 0; place = at 13; belongs = ToEnd [] [] false }

-- the end violates nothing
end_obeys : (r : Rule) → Violates core body (state_after []) r end → ⊥
end_obeys rule.I1 (p, e, hole) = cc
end_obeys rule.I2 (n, c, hole) = empty n c
end_obeys rule.I3 e = cc
end_obeys rule.X1 (p, e, clash) = cc
end_obeys rule.X2 (p, e, clash) = cc
end_obeys rule.S1 (h, c, e) = empty h c
end_obeys rule.S2 (h, e, s) = cc
end_obeys _ v = v

-- the only event of a trace is the end
no_trace : (r : Rule) (place : Place) → IsViolatedIn core body r place → ⊥
no_trace r place v = by v.before v.last v.trace.0 ((whole_listed (body_events core body) (search) ((v.before ++ v.last ∷ []) ++ v.trace.0)).0 v.trace.1) v.violates
  where
    by : (before : List Mark) (last : Mark) (rest : List Mark) → ((before ++ last ∷ []) ++ rest ≡ end ∷ []) ⊎ ⊥ → Violates core body (state_after before) r last → ⊥
    by [] last rest (inl e) w = let same : last ≡ end = cc in end_obeys r (subst (λ (m : Mark). Violates core body (state_after []) r m) same w)
    by (b ∷ []) last rest (inl e) w = cc
    by (b ∷ (c ∷ before)) last rest (inl e) w = cc
    by before last rest (inr no_way) w = no_way

no_events : (r : Rule) (place : Place) → IsViolatedByEvents core r place → ⊥
no_events r place (rules.in_body b c v) = no_trace r place (subst (λ (k : CoreBody). IsViolatedIn core k r place) (only body b c) v)
no_events r place (at_task w e c v) = empty w c

obeys : (r : Rule) (place : Place) → IsViolated core r place → ⊥
obeys r place (inl v) = no_names r place v
obeys r place (inr (inl v)) = no_types r place v
obeys r place (inr (inr v)) = no_events r place v

-- ---- the tree and its tokens

abbrev block : Block
block = roll-Block (record { stmts = []; end = at 13 })

abbrev tree : Tree
tree = record { decls = decl.Fun (record { name = main; params = []; result = None; body = block }) ∷ [] }

plain_block : core_block block ≡ BlockOf NoStmts (at 13)
plain_block =
    let e : (out-Block block).stmts ≡ [] = search the_lemmas in
    let k : (out-Block block).end ≡ at 13 = search the_lemmas in
    opened_block block ∙ rw (e, k) refl

plain_tree : core_tree tree ≡ core
plain_tree = ap (λ (b : CoreBlock). record { decls = FunOf (record { name = main; params = []; result = None; body = b }) ∷ [] }) plain_block

pub accepted : IsAccepted tree
accepted = record {
  tokens = keyword (codes "fun") (at 0) ∷ (word main ∷ (mark (codes "(") (at 8) ∷ (mark (codes ")") (at 9) ∷ (mark (codes "{") (at 11) ∷ (mark (codes "}") (at 13) ∷ [])))));
  spelled = record {
    decls = grammar.more_decls _ [] (keyword (codes "fun") (at 0) ∷ (word main ∷ (mark (codes "(") (at 8) ∷ (mark (codes ")") (at 9) ∷ (mark (codes "{") (at 11) ∷ (mark (codes "}") (at 13) ∷ [])))))) []
        (grammar.fun_decl (at 0) (at 8) (at 9) main [] None block [] [] (mark (codes "{") (at 11) ∷ (mark (codes "}") (at 13) ∷ [])) (types.no_params refl refl) (types.no_return refl refl)
        (grammar.is_block (at 11) (at 13) [] [] (grammar.none_stmts refl refl) refl refl) refl refl)
        (grammar.no_decls refl refl) refl refl;
  };
  obeys = λ r place v. obeys r place (subst (λ (c : Core). IsViolated c r place) plain_tree v);
}
