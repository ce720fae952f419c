-- Fields and declarations are read exactly, given that blocks are.
use Rattle.std.proofs.Common.{◌≡◌, ℕ, ◌-◌, Bool, ◌||◌, List, [], ◌∷◌, ◌++◌, Option, Some, inl, inr, refl, sym, ◌∙◌, ap, subst, append-nil, append_assoc}
use Rattle.std.specs.Prelude.{codes}
use Rattle.hv_tree.specs.declared.token.Token.{Token}
use Rattle.hv_tree.specs.declared.types.Name.{Name}
use Rattle.hv_tree.specs.declared.types.Ty.{Ty}
use Rattle.hv_tree.specs.declared.ast.Param.{Param}
use Rattle.hv_tree.specs.declared.ast.Field.{Field}
use Rattle.hv_tree.specs.declared.ast.Block.{Block}
use Rattle.hv_tree.specs.declared.ast.Decl.{Decl}
use Rattle.hv_tree.specs.declared.ast.Decl.TheVariants as decl
use Rattle.hv_tree.specs.Tokens.{Tokens, mark, keyword, word}
use Rattle.hv_tree.specs.Types.{IsType, AreParams, IsReturn}
use Rattle.hv_tree.specs.Grammar.{AreFields, no_fields, more_fields, IsDecl, struct_decl, fun_decl, AreDecls, no_decls, more_decls, IsBlock, is_block}
use Rattle.hv_syn_grammar.specs.Parser.{◌>>=◌, done}
use Rattle.hv_syn_grammar.specs.Lexemes.{is_keyword}
use Rattle.hv_syn_grammar.specs.Expressions.{block}
use Rattle.hv_syn_grammar.specs.Statements.{semicolon}
use Rattle.hv_syn_grammar.specs.Declarations as s
use Rattle.hv_syn_grammar.specs.Declarations.{inner, begins_decl}
use Rattle.hv_syn_exact.proofs.Exact.{Exact, Stops, Begins, Then, Either, Nothing, Many, then_exact, done_exact, choose_exact, many_exact, exact_by, exact_on, nowhere, never}
use Rattle.hv_syn_exact.proofs.Lexemes.{After, a_mark, a_keyword, a_word, next_exact, bracketed_exact}
use Rattle.hv_syn_exact.proofs.Inner.{on_type}
use Rattle.hv_syn_exact.proofs.Shorts.{zero_at, off_at, on_at, stops_left, stops_right, fails_keyword, Can, can_nothing, can_after, can_then}
use Rattle.hv_syn_exact.proofs.Mapped.{Mapped, mapped_exact}
use Rattle.hv_syn_exact.proofs.Semicolons.{IsSemicolon, on_semicolon, semicolon_exact, semicolon_stops}
use Rattle.hv_syn_exact.proofs.TypeRules.{type_exact}
use Rattle.hv_syn_exact.proofs.ParamRules.{IsBracketedParams, bracketed_params_exact, returned_exact, one_less}

-- ---- fields

abbrev field_of : Name → Ty → Unit {0} → Field
field_of name t u = record { name = name; ty = t }

abbrev FieldParts : Field → Tokens → Type 0
FieldParts = After (keyword (codes "var")) (λ var. After word (λ name. After (mark (codes ":")) (λ colon. Then IsType (λ t. Mapped (field_of name t) IsSemicolon))))

to_field : (f : Field) (rest : List Field) (ts a b : Tokens) → FieldParts f a → AreFields rest b → ts ≡ a ++ b → AreFields (f ∷ rest) ts
to_field f rest ts a b p h e =
    let n = p.2 in let c = n.2 in let t = c.2 in let m = t.4 in
    let flat : a ≡ keyword (codes "var") p.0 ∷ word n.0 ∷ mark (codes ":") c.0 ∷ (t.1 ++ t.2) = cc in
    more_fields p.0 c.0 n.0 t.0 rest t.1 t.2 b t.3 m.1 h (ap (λ f. f ∷ rest) m.2)
    (e ∙ ap (λ a. a ++ b) flat ∙ ap (λ l. keyword (codes "var") p.0 ∷ word n.0 ∷ mark (codes ":") c.0 ∷ l) (append_assoc t.1 t.2 b))

to_fields : (l : List Field) (ts : Tokens) → Many FieldParts l ts → AreFields l ts
to_fields [] ts m = no_fields refl m
to_fields (f ∷ l) ts m = to_field f l ts m.0 m.1 m.2 (to_fields l m.1 m.3) m.4

from_fields : (l : List Field) (ts : Tokens) → AreFields l ts → Many FieldParts l ts
from_fields l ts (no_fields e e') = subst (λ l. Many FieldParts l ts) (sym e) e'
from_fields l ts (more_fields var colon name t rest a m b x y h e e') =
    subst (λ l. Many FieldParts l ts) (sym e) (
      keyword (codes "var") var ∷ word name ∷ mark (codes ":") colon ∷ (a ++ m),
      b,
      (var, word name ∷ mark (codes ":") colon ∷ (a ++ m), (name, mark (codes ":") colon ∷ (a ++ m), (colon, a ++ m, (t, a, m, x, (tt, y, refl), refl), refl), refl), refl),
      from_fields rest b h,
      e' ∙ ap (λ l. keyword (codes "var") var ∷ word name ∷ mark (codes ":") colon ∷ l) (sym (append_assoc a m b)),
    )

abbrev on_field : Token → Bool
on_field k = on_semicolon k || on_type k

field_exact : (d : ℕ) → Exact d d on_field FieldParts (s.field d)
unfolding s.field
field_exact d =
    next_exact _ _ _ (a_keyword (codes "var")) _ _ d d d on_field (λ v. refl)
    (λ var. next_exact _ _ _ a_word _ _ d d d on_field (λ v. refl)
    (λ name. next_exact _ _ _ (a_mark (codes ":")) _ _ d d d on_field (λ v. refl)
    (λ colon. then_exact d d d on_type on_field IsType (λ t. Mapped (field_of name t) IsSemicolon) _ _ (type_exact d)
    (λ t. fewer (field_of name t))
    (λ t b y rest m h. semicolon_stops on_type (λ at. refl) y rest m.1 h))))
  where
    fewer : (f : Unit {0} → Field) → Exact d d on_field (Mapped f IsSemicolon) (semicolon >>= (λ u. done (f u)))
    fewer f = exact_on d d on_semicolon on_field _ _ (mapped_exact d d on_semicolon f IsSemicolon _ (semicolon_exact d)) (λ rest h. stops_left on_semicolon on_type rest h)

abbrev on_fields : Token → Bool
on_fields k = is_keyword (codes "var") k || on_field k

fields_exact : (d : ℕ) → Exact d d on_fields AreFields (s.fields d)
unfolding s.fields
fields_exact d =
    exact_by d d on_fields (Many FieldParts) AreFields _
    (many_exact d (is_keyword (codes "var")) on_field FieldParts (s.field d) (field_exact d)
    (λ x ts p. on_at (is_keyword (codes "var")) _ ts p.1 p.3 refl) on_fields
    (λ rest h. stops_left (is_keyword (codes "var")) on_field rest h) (λ rest h. stops_right (is_keyword (codes "var")) on_field rest h) (fails_keyword (codes "var") on_field (λ at. refl)))
    to_fields from_fields

-- ---- structs and functions

abbrev struct_of : Name → List Field → Decl
struct_of name fs = decl.Struct (record { name = name; fields = fs })

abbrev fun_of : Name → List Param → Option Ty → Block → Decl
fun_of name ps result body = decl.Fun (record { name = name; params = ps; result = result; body = body })

abbrev StructParts : Decl → Tokens → Type 0
StructParts = After (keyword (codes "struct")) (λ at. After word (λ name. After (mark (codes "{")) (λ left. Then AreFields (λ fs. After (mark (codes "}")) (λ right. Nothing (struct_of name fs))))))

abbrev FunParts : Decl → Tokens → Type 0
FunParts = After (keyword (codes "fun")) (λ at. After word (λ name. Then IsBracketedParams (λ ps. Then IsReturn (λ result. Then IsBlock (λ body. Nothing (fun_of name ps result body))))))

to_decl : (x : Decl) (ts : Tokens) → Either StructParts FunParts x ts → IsDecl x ts
to_decl x ts (inl p) =
    let n = p.2 in let l = n.2 in let f = l.2 in let r = f.4 in
    let flat : ts ≡ keyword (codes "struct") p.0 ∷ word n.0 ∷ mark (codes "{") l.0 ∷ (f.1 ++ mark (codes "}") r.0 ∷ []) = cc in
    struct_decl p.0 l.0 r.0 n.0 f.0 f.1 f.3 r.2.0 flat
to_decl x ts (inr p) =
    let n = p.2 in let q = n.2 in let l = q.3 in let a = l.2 in let r = a.4 in let u = q.4 in let v = u.4 in
    let front : q.1 ≡ mark (codes "(") l.0 ∷ (a.1 ++ mark (codes ")") r.0 ∷ []) = cc in
    let back : q.2 ≡ u.1 ++ v.1 = u.5 ∙ ap (λ y. u.1 ++ y) (v.5 ∙ ap (λ y. v.1 ++ y) v.4.1 ∙ append-nil v.1) in
    fun_decl p.0 l.0 r.0 n.0 q.0 u.0 v.0 a.1 u.1 v.1 (subst (λ ps. AreParams ps a.1) (sym r.2.0) a.3) u.3 v.3 v.4.0
    (p.3 ∙ ap (λ y. keyword (codes "fun") p.0 ∷ y) (n.3 ∙ ap (λ y. word n.0 ∷ y) (q.5 ∙ ap (λ y. y ++ q.2) front ∙ ap (λ y. mark (codes "(") l.0 ∷ y) (append_assoc a.1 (mark (codes ")") r.0 ∷ []) q.2) ∙ ap (λ y. mark (codes "(") l.0 ∷ (a.1 ++ mark (codes ")") r.0 ∷ y)) back)))

from_decl : (x : Decl) (ts : Tokens) → IsDecl x ts → Either StructParts FunParts x ts
from_decl x ts (struct_decl at left right name fs a h e e') =
    inl (at, word name ∷ mark (codes "{") left ∷ (a ++ mark (codes "}") right ∷ []), (name, mark (codes "{") left ∷ (a ++ mark (codes "}") right ∷ []), (left, a ++ mark (codes "}") right ∷ [], (fs, a, mark (codes "}") right ∷ [], h, (right, [], (e, refl), refl), refl), refl), refl), e')
from_decl x ts (fun_decl at left right name ps result body a b c u v w e e') =
    inr (
      at,
      word name ∷ mark (codes "(") left ∷ (a ++ mark (codes ")") right ∷ (b ++ c)),
      (
        name,
        mark (codes "(") left ∷ (a ++ mark (codes ")") right ∷ (b ++ c)),
        (
          ps,
          mark (codes "(") left ∷ (a ++ mark (codes ")") right ∷ []),
          b ++ c,
          (left, a ++ mark (codes ")") right ∷ [], (ps, a, mark (codes ")") right ∷ [], u, (right, [], (refl, refl), refl), refl), refl),
          (result, b, c, v, (body, c, [], w, (e, refl), sym (append-nil c)), refl),
          ap (λ y. mark (codes "(") left ∷ y) (sym (append_assoc a (mark (codes ")") right ∷ []) (b ++ c))),
        ),
        refl,
      ),
      e',
    )

block_opens : (b : Block) (ts rest : Tokens) → IsBlock b ts → Stops on_type (ts ++ rest)
block_opens b ts rest (is_block left right ss a h e e') = off_at on_type _ ts _ rest e' refl

module _ (d : ℕ) (some_block : Can IsBlock) (B : Exact d d nowhere IsBlock (block d (inner d))) where
  struct_exact : Exact d d nowhere StructParts (s.struct_decl d)
  unfolding s.struct_decl
  struct_exact =
      next_exact _ _ _ (a_keyword (codes "struct")) _ _ d d d nowhere (λ v. refl)
      (λ at. next_exact _ _ _ a_word _ _ d d d nowhere (λ v. refl)
      (λ name. bracketed_exact _ _ _ (a_mark (codes "{")) _ _ d d nowhere
      (λ left. can_then AreFields (λ fs. After (mark (codes "}")) (λ right. Nothing (struct_of name fs))) ([], [], no_fields refl refl) (can_after _ _ zero_at (can_nothing (struct_of name []))))
      (λ v. refl)
      (λ n is left. then_exact n n d on_fields nowhere _ _ (s.fields (d - 1)) _ (subst (λ m. Exact n n on_fields AreFields (s.fields m)) (sym (one_less d n is)) (fields_exact n))
      (λ fs. next_exact _ _ _ (a_mark (codes "}")) _ _ n d d nowhere (λ v. ap Some (sym is)) (λ right. done_exact d nowhere (struct_of name fs)))
      (λ fs b y rest u h. off_at on_fields _ y u.1 rest u.3 refl))))

  fun_exact : Exact d d nowhere FunParts (s.fun_decl d)
  unfolding s.fun_decl
  fun_exact =
      next_exact _ _ _ (a_keyword (codes "fun")) _ _ d d d nowhere (λ v. refl)
      (λ at. next_exact _ _ _ a_word _ _ d d d nowhere (λ v. refl)
      (λ name. then_exact d d d nowhere nowhere IsBracketedParams (λ ps. Then IsReturn (λ result. Then IsBlock (λ body. Nothing (fun_of name ps result body)))) _ _ (bracketed_params_exact d)
      (λ ps. then_exact d d d on_type nowhere IsReturn (λ result. Then IsBlock (λ body. Nothing (fun_of name ps result body))) _ _ (returned_exact d)
      (λ result. then_exact d d d nowhere nowhere IsBlock (λ body. Nothing (fun_of name ps result body)) _ _ B (λ body. done_exact d nowhere (fun_of name ps result body)) (λ body b y rest n h. never (y ++ rest)))
      (λ result b y rest u h. subst (λ y. Stops on_type (y ++ rest)) (sym (u.5 ∙ ap (λ y. u.1 ++ y) u.4.1 ∙ append-nil u.1)) (block_opens u.0 u.1 rest u.3)))
      (λ ps b y rest u h. never (y ++ rest))))

  decl_exact : Exact d d nowhere IsDecl (s.one_decl d)
  unfolding s.one_decl
  decl_exact =
      exact_by d d nowhere (Either StructParts FunParts) IsDecl _
      (choose_exact d d (is_keyword (codes "struct")) StructParts FunParts _ _ nowhere nowhere nowhere struct_exact fun_exact
      (λ x ts p. on_at (is_keyword (codes "struct")) _ ts p.1 p.3 refl) (λ x ts rest p h. off_at (is_keyword (codes "struct")) _ ts p.1 rest p.3 refl) (λ rest h. h) (λ rest h. h))
      to_decl from_decl

  decl_begins : (x : Decl) (ts : Tokens) → IsDecl x ts → Begins begins_decl ts
  decl_begins x ts (struct_decl at left right name fs a h e e') = on_at begins_decl _ ts _ e' refl
  decl_begins x ts (fun_decl at left right name ps result body a b c u v w e e') = on_at begins_decl _ ts _ e' refl

  to_decls : (l : List Decl) (ts : Tokens) → Many IsDecl l ts → AreDecls l ts
  to_decls [] ts m = no_decls refl m
  to_decls (x ∷ l) ts m = more_decls x l m.0 m.1 m.2 (to_decls l m.1 m.3) refl m.4

  from_decls : (l : List Decl) (ts : Tokens) → AreDecls l ts → Many IsDecl l ts
  from_decls l ts (no_decls e e') = subst (λ l. Many IsDecl l ts) (sym e) e'
  from_decls l ts (more_decls x rest a b h k e e') = subst (λ l. Many IsDecl l ts) (sym e) (a, b, h, from_decls rest b k, e')

  pub decls_exact : Exact d d begins_decl AreDecls (s.decls d)
  unfolding s.decls
  decls_exact =
      exact_by d d begins_decl (Many IsDecl) AreDecls _
      (many_exact d begins_decl nowhere IsDecl (s.one_decl d) decl_exact decl_begins begins_decl (λ rest h. h) (λ rest h. never rest) (λ k e. refl))
      to_decls from_decls
