-- Types are read exactly.
use Rattle.std.proofs.Common.{◌≡◌, ℕ, zero, suc, Bool, true, false, ◌||◌, List, [], ◌∷◌, ◌++◌, Option, Some, None, inl, inr, refl, sym, ◌∙◌, ap, subst, append-nil, append_assoc}
use Rattle.std.specs.Prelude.{codes}
use Rattle.hv_tree.specs.declared.token.Token.{Token}
use Rattle.hv_tree.specs.declared.types.Conv.{Conv}
use Rattle.hv_tree.specs.declared.types.Ty.{Ty}
use Rattle.hv_tree.specs.declared.types.Ty.TheVariants as ty
use Rattle.hv_tree.specs.Tokens.{Tokens, mark, keyword, word, IsConv, no_conv, let_conv, inout_conv, sink_conv, set_conv, Separated, one_part, more_parts}
use Rattle.hv_tree.specs.Types.{IsType, plain_type, function_type, IsResultType, int_type, bool_type, named_type, array_type, group_type, AreTypes, no_types, some_types, AreSomeTypes, one_type, more_types, IsResult, no_result, one_result}
use Rattle.hv_tree.specs.Refusal.{is_mark}
use Rattle.hv_syn_grammar.specs.Parser.{choose}
use Rattle.hv_syn_grammar.specs.Lexemes.{is_word, is_keyword}
use Rattle.hv_syn_grammar.specs.Signatures as s
use Rattle.hv_syn_grammar.specs.Signatures.{InnerTypes, begins_conv, begins_result, begins_type, begins_conv_type, inner_types}
use Rattle.hv_syn_exact.proofs.Exact.{Exact, Stops, Begins, Then, Either, Nothing, then_exact, done_exact, choose_exact, exact_by, nowhere, never}
use Rattle.hv_syn_exact.proofs.Lexemes.{After, a_mark, a_keyword, a_word, next_exact, bracketed_exact}
use Rattle.hv_syn_exact.proofs.Inner.{on_type}
use Rattle.hv_syn_exact.proofs.Shorts.{zero_at, off_at, on_at, empty_stops, stops_left, stops_right, begins_wider, begins_stops, front_stops, excludes_keyword, Can, can_nothing, can_after, can_then}
use Rattle.hv_lemmas.proofs.Bools.{or_right}
use Rattle.hv_syn_exact.proofs.Separated.{separated_exact, separated_begins}
use Rattle.hv_syn_exact.proofs.ConvRules.{conv_exact}

-- ---- results

abbrev IntType : Ty → Tokens → Type 0
IntType = After (keyword (codes "Int")) (λ at. Nothing (ty.Int at))

abbrev BoolType : Ty → Tokens → Type 0
BoolType = After (keyword (codes "Bool")) (λ at. Nothing (ty.Bool at))

abbrev NamedType : Ty → Tokens → Type 0
NamedType = After word (λ name. Nothing (ty.Named name))

abbrev ArrayType : Ty → Tokens → Type 0
ArrayType = After (mark (codes "[")) (λ left. Then IsType (λ t. After (mark (codes "]")) (λ right. Nothing (ty.Array left t))))

abbrev GroupType : Ty → Tokens → Type 0
GroupType = After (mark (codes "(")) (λ left. Then IsType (λ t. After (mark (codes ")")) (λ right. Nothing t)))

abbrev Bracketed : Ty → Tokens → Type 0
Bracketed = Either ArrayType GroupType

abbrev NotInt : Ty → Tokens → Type 0
NotInt = Either BoolType (Either NamedType Bracketed)

to_result : (t : Ty) (ts : Tokens) → Either IntType NotInt t ts → IsResultType t ts
to_result t ts (inl a) = int_type a.0 a.2.0 (a.3 ∙ ap (λ y. keyword (codes "Int") a.0 ∷ y) a.2.1)
to_result t ts (inr (inl a)) = bool_type a.0 a.2.0 (a.3 ∙ ap (λ y. keyword (codes "Bool") a.0 ∷ y) a.2.1)
to_result t ts (inr (inr (inl a))) = named_type a.0 a.2.0 (a.3 ∙ ap (λ y. word a.0 ∷ y) a.2.1)
to_result t ts (inr (inr (inr (inl a)))) =
    let h = a.2 in let u = h.4 in
    let flat : ts ≡ mark (codes "[") a.0 ∷ (h.1 ++ mark (codes "]") u.0 ∷ []) = cc in
    array_type a.0 u.0 h.0 h.1 h.3 u.2.0 flat
to_result t ts (inr (inr (inr (inr a)))) =
    let h = a.2 in let u = h.4 in
    let flat : ts ≡ mark (codes "(") a.0 ∷ (h.1 ++ mark (codes ")") u.0 ∷ []) = cc in
    group_type a.0 u.0 h.1 (subst (λ t. IsType t h.1) (sym u.2.0) h.3) flat

from_result : (t : Ty) (ts : Tokens) → IsResultType t ts → Either IntType NotInt t ts
from_result t ts (int_type at e e') = inl (at, [], (e, refl), e')
from_result t ts (bool_type at e e') = inr (inl (at, [], (e, refl), e'))
from_result t ts (named_type name e e') = inr (inr (inl (name, [], (e, refl), e')))
from_result t ts (array_type left right element a h e e') = inr (inr (inr (inl (left, a ++ mark (codes "]") right ∷ [], (element, a, mark (codes "]") right ∷ [], h, (right, [], (e, refl), refl), refl), e'))))
from_result t ts (group_type left right a h e) = inr (inr (inr (inr (left, a ++ mark (codes ")") right ∷ [], (t, a, mark (codes ")") right ∷ [], h, (right, [], (refl, refl), refl), refl), e))))

pub some_result : Can IsResultType
some_result = (ty.Int zero_at, keyword (codes "Int") zero_at ∷ [], int_type zero_at refl refl)

pub some_type : Can IsType
some_type = (some_result.0, some_result.1, plain_type some_result.2)

result_begins : (t : Ty) (ts : Tokens) → IsResultType t ts → Begins begins_result ts
result_begins t ts (int_type at e e') = on_at begins_result _ ts [] e' refl
result_begins t ts (bool_type at e e') = on_at begins_result _ ts [] e' refl
result_begins t ts (named_type name e e') = on_at begins_result _ ts [] e' refl
result_begins t ts (array_type left right element a h e e') = on_at begins_result _ ts _ e' refl
result_begins t ts (group_type left right a h e) = on_at begins_result _ ts _ e refl

pub type_begins : (t : Ty) (ts : Tokens) → IsType t ts → Begins begins_type ts
type_begins t ts (plain_type h) = begins_wider begins_result begins_type (λ k e. or_right (is_keyword (codes "fun") k) (begins_result k) e) ts (result_begins t ts h)
type_begins t ts (function_type fun left right params result a b x y e e') = on_at begins_type _ ts _ e' refl

-- ---- function types

abbrev Arrow : Option Ty → Tokens → Type 0
Arrow = After (mark (codes "->")) (λ arrow. Then IsResultType (λ t. Nothing (Some t)))

to_arrow : (r : Option Ty) (ts : Tokens) → Either Arrow (Nothing None) r ts → IsResult r ts
to_arrow r ts (inl a) = let h = a.2 in one_result a.0 h.0 h.1 h.3 h.4.0 (a.3 ∙ ap (λ y. mark (codes "->") a.0 ∷ y) (h.5 ∙ ap (λ y. h.1 ++ y) h.4.1 ∙ append-nil h.1))
to_arrow r ts (inr n) = no_result n.0 n.1

from_arrow : (r : Option Ty) (ts : Tokens) → IsResult r ts → Either Arrow (Nothing None) r ts
from_arrow r ts (no_result e e') = inr (e, e')
from_arrow r ts (one_result arrow t a h e e') = inl (arrow, a, (t, a, [], h, (e, refl), sym (append-nil a)), e')

abbrev FunctionType : Ty → Tokens → Type 0
FunctionType = After (keyword (codes "fun")) (λ fun. After (mark (codes "(")) (λ left. Then AreTypes (λ params. After (mark (codes ")")) (λ right. Then IsResult (λ result. Nothing (ty.Fun fun params result))))))

to_type : (t : Ty) (ts : Tokens) → Either FunctionType IsResultType t ts → IsType t ts
to_type t ts (inl f) =
    let g = f.2 in let h = g.2 in let u = h.4 in let v = u.2 in
    let flat : ts ≡ keyword (codes "fun") f.0 ∷ mark (codes "(") g.0 ∷ (h.1 ++ mark (codes ")") u.0 ∷ (v.1 ++ [])) = cc in
    function_type f.0 g.0 u.0 h.0 v.0 h.1 v.1 h.3 v.3 v.4.0 (flat ∙ ap (λ y. keyword (codes "fun") f.0 ∷ mark (codes "(") g.0 ∷ (h.1 ++ mark (codes ")") u.0 ∷ y)) (append-nil v.1))
to_type t ts (inr h) = plain_type h

from_type : (t : Ty) (ts : Tokens) → IsType t ts → Either FunctionType IsResultType t ts
from_type t ts (plain_type h) = inr h
from_type t ts (function_type fun left right params result a b x y e e') =
    inl (fun, mark (codes "(") left ∷ (a ++ mark (codes ")") right ∷ b), (left, a ++ mark (codes ")") right ∷ b, (params, a, mark (codes ")") right ∷ b, x, (right, b, (result, b, [], y, (e, refl), sym (append-nil b)), refl), refl), refl), e')

-- ---- lists of types

abbrev ConvType : Conv × Ty → Tokens → Type 0
ConvType = Then IsConv (λ c. Then IsType (λ t. Nothing (c, t)))

conv_parts : (x : Conv × Ty) (ts : Tokens) → ConvType x ts → (c : Conv) × (t : Ty) × (a : Tokens) × (b : Tokens) × IsConv c a × IsType t b × (x ≡ (c, t)) × (ts ≡ a ++ b)
conv_parts x ts h = let u = h.4 in (h.0, u.0, h.1, u.1, h.3, u.3, u.4.0, h.5 ∙ ap (λ y. h.1 ++ y) (u.5 ∙ ap (λ y. u.1 ++ y) u.4.1 ∙ append-nil u.1))

conv_whole : (c : Conv) (t : Ty) (ts a b : Tokens) → IsConv c a → IsType t b → ts ≡ a ++ b → ConvType (c, t) ts
conv_whole c t ts a b x y e = (c, a, b, x, (t, b, [], y, (refl, refl), sym (append-nil b)), e)

to_some_types : (l : List (Conv × Ty)) (ts : Tokens) → Separated ConvType l ts → AreSomeTypes l ts
to_some_types l ts (one_part x h e) = let p = conv_parts x ts h in one_type p.0 p.1 p.2 p.3 p.4 p.5 (e ∙ ap (λ x. x ∷ []) p.6) p.7
to_some_types l ts (more_parts x a comma rest b h k e e') =
    let p = conv_parts x a h in
    more_types p.0 p.1 p.2 p.3 comma rest b p.4 p.5 (to_some_types rest b k) (e ∙ ap (λ x. x ∷ rest) p.6) (e' ∙ ap (λ a. a ++ mark (codes ",") comma ∷ b) p.7 ∙ append_assoc p.2 p.3 (mark (codes ",") comma ∷ b))

from_some_types : (l : List (Conv × Ty)) (ts : Tokens) → AreSomeTypes l ts → Separated ConvType l ts
from_some_types l ts (one_type c t a b x y e e') = one_part (c, t) (conv_whole c t ts a b x y e') e
from_some_types l ts (more_types c t a b comma rest d x y z e e') =
    more_parts (c, t) (a ++ b) comma rest d (conv_whole c t (a ++ b) a b x y refl) (from_some_types rest d z) e (e' ∙ sym (append_assoc a b (mark (codes ",") comma ∷ d)))

to_types : (l : List (Conv × Ty)) (ts : Tokens) → Either (Separated ConvType) (Nothing []) l ts → AreTypes l ts
to_types l ts (inl h) = some_types (to_some_types l ts h)
to_types l ts (inr n) = no_types n.0 n.1

from_types : (l : List (Conv × Ty)) (ts : Tokens) → AreTypes l ts → Either (Separated ConvType) (Nothing []) l ts
from_types l ts (no_types e e') = inr (e, e')
from_types l ts (some_types h) = inl (from_some_types l ts h)

conv_begins : (c : Conv) (a b ts : Tokens) → IsConv c a → Begins begins_type b → ts ≡ a ++ b → Begins begins_conv_type ts
conv_begins c a b ts (no_conv e e') h is = subst (Begins begins_conv_type) (sym (is ∙ ap (λ a. a ++ b) e')) (begins_wider begins_type begins_conv_type (λ k e. or_right (begins_conv k) (begins_type k) e) b h)
conv_begins c a b ts (let_conv at e e') h is = on_at begins_conv_type _ ts b (is ∙ ap (λ a. a ++ b) e') refl
conv_begins c a b ts (inout_conv at e e') h is = on_at begins_conv_type _ ts b (is ∙ ap (λ a. a ++ b) e') refl
conv_begins c a b ts (sink_conv at e e') h is = on_at begins_conv_type _ ts b (is ∙ ap (λ a. a ++ b) e') refl
conv_begins c a b ts (set_conv at e e') h is = on_at begins_conv_type _ ts b (is ∙ ap (λ a. a ++ b) e') refl

conv_type_begins : (x : Conv × Ty) (ts : Tokens) → ConvType x ts → Begins begins_conv_type ts
conv_type_begins x ts h = let p = conv_parts x ts h in conv_begins p.0 p.2 p.3 ts p.4 (type_begins p.1 p.3 p.5) p.7

-- no type begins with a convention
pub type_no_conv : (k : Token) → begins_type k ≡ true → begins_conv k ≡ false
type_no_conv k e =
    both (is_keyword (codes "let") k) _ (excludes_keyword (codes "let") begins_type (λ at. refl) k e)
    (both (is_keyword (codes "inout") k) _ (excludes_keyword (codes "inout") begins_type (λ at. refl) k e)
    (both (is_keyword (codes "sink") k) _ (excludes_keyword (codes "sink") begins_type (λ at. refl) k e) (excludes_keyword (codes "set") begins_type (λ at. refl) k e)))
  where
    both : (a b : Bool) → a ≡ false → b ≡ false → (a || b) ≡ false
    both true b x y = absurd (cc)
    both false b x y = y

-- what goes on after a list of types
abbrev pub on_types : Token → Bool
on_types k = (is_mark (codes ",") k || on_type k) || begins_conv_type k

-- the parsers right inside a bracket of a type are exact
pub record InnerTypesExact (d : ℕ) (i : InnerTypes) : Type 0 where
  pub type : (n : ℕ) → d ≡ suc n → Exact n n on_type IsType i.type
  pub types : (n : ℕ) → d ≡ suc n → Exact n n on_types AreTypes i.types

module _ (d : ℕ) (i : InnerTypes) (I : InnerTypesExact d i) where
  array_exact : Exact d d nowhere ArrayType (s.array_type d i)
  array_exact =
      bracketed_exact _ _ _ (a_mark (codes "[")) _ _ d d nowhere
      (λ left. can_then IsType (λ t. After (mark (codes "]")) (λ right. Nothing (ty.Array left t))) some_type (can_after _ _ zero_at (can_nothing (ty.Array left some_type.0))))
      (λ v. refl)
      (λ n is left. then_exact n n d on_type nowhere _ _ i.type _ (I.type n is)
      (λ t. next_exact _ _ _ (a_mark (codes "]")) _ _ n d d nowhere (λ v. ap Some (sym is)) (λ right. done_exact d nowhere (ty.Array left t)))
      (λ t b y rest u h. off_at on_type _ y u.1 rest u.3 refl))

  group_exact : Exact d d nowhere GroupType (s.group_type d i)
  group_exact =
      bracketed_exact _ _ _ (a_mark (codes "(")) _ _ d d nowhere
      (λ left. can_then IsType (λ t. After (mark (codes ")")) (λ right. Nothing t)) some_type (can_after _ _ zero_at (can_nothing some_type.0)))
      (λ v. refl)
      (λ n is left. then_exact n n d on_type nowhere _ _ i.type _ (I.type n is)
      (λ t. next_exact _ _ _ (a_mark (codes ")")) _ _ n d d nowhere (λ v. ap Some (sym is)) (λ right. done_exact d nowhere t))
      (λ t b y rest u h. off_at on_type _ y u.1 rest u.3 refl))

  bracket_types_exact : Exact d d nowhere Bracketed (choose (is_mark (codes "[")) (s.array_type d i) (s.group_type d i))
  bracket_types_exact =
      choose_exact d d (is_mark (codes "[")) ArrayType GroupType _ _ nowhere nowhere nowhere array_exact group_exact
      (λ x ts a. on_at (is_mark (codes "[")) _ ts a.1 a.3 refl) (λ x ts rest a h. off_at (is_mark (codes "[")) _ ts a.1 rest a.3 refl) (λ rest h. h) (λ rest h. h)

  named_exact : Exact d d nowhere (Either NamedType Bracketed) (choose is_word (s.named_type d i) (choose (is_mark (codes "[")) (s.array_type d i) (s.group_type d i)))
  named_exact =
      choose_exact d d is_word NamedType Bracketed _ _ nowhere nowhere nowhere (next_exact _ _ _ a_word _ _ d d d nowhere (λ v. refl) (λ name. done_exact d nowhere (ty.Named name))) bracket_types_exact
      (λ x ts a. on_at is_word _ ts a.1 a.3 refl) other (λ rest h. h) (λ rest h. h)
    where
      other : (x : Ty) (ts rest : Tokens) → Bracketed x ts → Stops nowhere rest → Stops is_word (ts ++ rest)
      other x ts rest (inl a) h = off_at is_word _ ts a.1 rest a.3 refl
      other x ts rest (inr a) h = off_at is_word _ ts a.1 rest a.3 refl

  not_int_exact : Exact d d nowhere NotInt (choose (is_keyword (codes "Bool")) (s.bool_type d i) (choose is_word (s.named_type d i) (choose (is_mark (codes "[")) (s.array_type d i) (s.group_type d i))))
  not_int_exact =
      choose_exact d d (is_keyword (codes "Bool")) BoolType (Either NamedType Bracketed) _ _ nowhere nowhere nowhere (next_exact _ _ _ (a_keyword (codes "Bool")) _ _ d d d nowhere (λ v. refl) (λ at. done_exact d nowhere (ty.Bool at))) named_exact
      (λ x ts a. on_at (is_keyword (codes "Bool")) _ ts a.1 a.3 refl) other (λ rest h. h) (λ rest h. h)
    where
      other : (x : Ty) (ts rest : Tokens) → Either NamedType Bracketed x ts → Stops nowhere rest → Stops (is_keyword (codes "Bool")) (ts ++ rest)
      other x ts rest (inl a) h = off_at (is_keyword (codes "Bool")) _ ts a.1 rest a.3 refl
      other x ts rest (inr (inl a)) h = off_at (is_keyword (codes "Bool")) _ ts a.1 rest a.3 refl
      other x ts rest (inr (inr a)) h = off_at (is_keyword (codes "Bool")) _ ts a.1 rest a.3 refl

  result_type_exact : Exact d d nowhere IsResultType (s.result_type d i)
  unfolding s.result_type
  result_type_exact =
      exact_by d d nowhere (Either IntType NotInt) IsResultType _
      (choose_exact d d (is_keyword (codes "Int")) IntType NotInt _ _ nowhere nowhere nowhere (next_exact _ _ _ (a_keyword (codes "Int")) _ _ d d d nowhere (λ v. refl) (λ at. done_exact d nowhere (ty.Int at))) not_int_exact
      (λ x ts a. on_at (is_keyword (codes "Int")) _ ts a.1 a.3 refl) other (λ rest h. h) (λ rest h. h))
      to_result from_result
    where
      other : (x : Ty) (ts rest : Tokens) → NotInt x ts → Stops nowhere rest → Stops (is_keyword (codes "Int")) (ts ++ rest)
      other x ts rest (inl a) h = off_at (is_keyword (codes "Int")) _ ts a.1 rest a.3 refl
      other x ts rest (inr (inl a)) h = off_at (is_keyword (codes "Int")) _ ts a.1 rest a.3 refl
      other x ts rest (inr (inr (inl a))) h = off_at (is_keyword (codes "Int")) _ ts a.1 rest a.3 refl
      other x ts rest (inr (inr (inr a))) h = off_at (is_keyword (codes "Int")) _ ts a.1 rest a.3 refl

  arrow_exact : Exact d d on_type IsResult (s.function_result d i)
  unfolding s.function_result
  arrow_exact =
      exact_by d d on_type (Either Arrow (Nothing None)) IsResult _
      (choose_exact d d on_type Arrow (Nothing None) _ _ on_type nowhere nowhere
      (next_exact _ _ _ (a_mark (codes "->")) _ _ d d d nowhere (λ v. refl)
      (λ arrow. then_exact d d d nowhere nowhere IsResultType (λ t. Nothing (Some t)) _ _ result_type_exact (λ t. done_exact d nowhere (Some t)) (λ t b y rest n h. never (y ++ rest))))
      (done_exact d nowhere None)
      (λ x ts a. on_at on_type _ ts a.1 a.3 refl) (λ x ts rest n h. empty_stops on_type ts rest n.1 h) (λ rest h. never rest) (λ rest h. never rest))
      to_arrow from_arrow

  function_exact : Exact d d on_type FunctionType (s.function_type d i)
  unfolding s.function_type
  function_exact =
      next_exact _ _ _ (a_keyword (codes "fun")) _ _ d d d on_type (λ v. refl)
      (λ fun. bracketed_exact _ _ _ (a_mark (codes "(")) _ _ d d on_type
      (λ left. can_then AreTypes (λ params. After (mark (codes ")")) (λ right. Then IsResult (λ result. Nothing (ty.Fun fun params result)))) ([], [], no_types refl refl)
      (can_after _ _ zero_at (can_then IsResult (λ result. Nothing (ty.Fun fun [] result)) (None, [], no_result refl refl) (can_nothing (ty.Fun fun [] None)))))
      (λ v. refl)
      (λ n is left. then_exact n n d on_types on_type _ _ i.types _ (I.types n is)
      (λ params. next_exact _ _ _ (a_mark (codes ")")) _ _ n d d on_type (λ v. ap Some (sym is))
      (λ right. then_exact d d d on_type on_type IsResult (λ result. Nothing (ty.Fun fun params result)) _ _ arrow_exact (λ result. done_exact d on_type (ty.Fun fun params result)) (λ r b y rest m h. empty_stops on_type y rest m.1 h)))
      (λ t b y rest u h. off_at on_types _ y u.1 rest u.3 refl)))

  pub type_exact_at : Exact d d on_type IsType (s.type d i)
  unfolding s.type
  type_exact_at =
      exact_by d d on_type (Either FunctionType IsResultType) IsType _
      (choose_exact d d (is_keyword (codes "fun")) FunctionType IsResultType _ _ on_type on_type nowhere function_exact result_type_exact
      (λ x ts a. on_at (is_keyword (codes "fun")) _ ts a.1 a.3 refl)
      (λ x ts rest a h. begins_stops begins_result (is_keyword (codes "fun")) (excludes_keyword (codes "fun") begins_result (λ at. refl)) ts rest (result_begins x ts a))
      (λ rest h. h) (λ rest h. never rest))
      to_type from_type

  conv_type_exact : Exact d d on_type ConvType (s.conv_type d i)
  unfolding s.conv_type
  conv_type_exact =
      then_exact d d d begins_conv on_type IsConv (λ c. Then IsType (λ t. Nothing (c, t))) _ _ (conv_exact d)
      (λ c. then_exact d d d on_type on_type IsType (λ t. Nothing (c, t)) _ _ type_exact_at (λ t. done_exact d on_type (c, t)) (λ t b y rest n h. empty_stops on_type y rest n.1 h))
      (λ c b y rest u h. front_stops begins_type begins_conv type_no_conv u.1 u.2 y rest (type_begins u.0 u.1 u.3) u.5)

  pub types_exact_at : Exact d d on_types AreTypes (s.types d i)
  unfolding s.types
  types_exact_at =
      exact_by d d on_types (Either (Separated ConvType) (Nothing [])) AreTypes _
      (choose_exact d d begins_conv_type (Separated ConvType) (Nothing []) _ _ on_types (λ k. is_mark (codes ",") k || on_type k) nowhere
      (separated_exact ConvType d on_type (s.conv_type d i) conv_type_exact (λ at. refl)) (done_exact d nowhere [])
      (λ l ts h. separated_begins ConvType begins_conv_type conv_type_begins l ts h)
      (λ l ts rest n h. empty_stops begins_conv_type ts rest n.1 (stops_right (λ k. is_mark (codes ",") k || on_type k) begins_conv_type rest h))
      (λ rest h. stops_left (λ k. is_mark (codes ",") k || on_type k) begins_conv_type rest h) (λ rest h. never rest))
      to_types from_types

-- ---- with d brackets that may still be opened

inner_exact : (d : ℕ) → InnerTypesExact d (inner_types d)
inner_exact zero = record { type = λ n is. absurd (cc); types = λ n is. absurd (cc) }
inner_exact (suc d) = record {
  type = λ n is. let e : d ≡ n = cc in subst (λ n. Exact n n on_type IsType (s.type d (inner_types d))) e (type_exact_at d (inner_types d) (inner_exact d));
  types = λ n is. let e : d ≡ n = cc in subst (λ n. Exact n n on_types AreTypes (s.types d (inner_types d))) e (types_exact_at d (inner_types d) (inner_exact d));
}

pub type_exact : (d : ℕ) → Exact d d on_type IsType (s.type_at d)
unfolding s.type_at
type_exact d = type_exact_at d (inner_types d) (inner_exact d)
