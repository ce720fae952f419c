-- Lists of names, parameters and results are read exactly.
use Rattle.std.proofs.Common.{◌≡◌, ℕ, suc, ◌-◌, Bool, true, false, ◌||◌, List, [], ◌∷◌, ◌++◌, Option, Some, None, inl, inr, refl, sym, ◌∙◌, ap, subst, append-nil, arith}
use Rattle.std.specs.Prelude.{codes}
use Rattle.hv_tree.specs.declared.token.Token.{Token}
use Rattle.hv_tree.specs.declared.types.Name.{Name}
use Rattle.hv_tree.specs.declared.types.Ty.{Ty}
use Rattle.hv_tree.specs.declared.ast.Param.{Param}
use Rattle.hv_tree.specs.Tokens.{Tokens, mark, word, IsConv, IsName, Separated}
use Rattle.hv_tree.specs.Types.{IsType, IsParam, is_param, AreParams, no_params, some_params, IsReturn, no_return, one_return}
use Rattle.hv_tree.specs.Grammar.{AreNames, no_names, some_names}
use Rattle.hv_tree.specs.Refusal.{is_mark}
use Rattle.hv_syn_grammar.specs.Lexemes.{is_word}
use Rattle.hv_syn_grammar.specs.Signatures as s
use Rattle.hv_syn_grammar.specs.Signatures.{begins_conv, begins_type}
use Rattle.hv_syn_exact.proofs.Exact.{Exact, Stops, Begins, Then, Either, Nothing, then_exact, done_exact, choose_exact, exact_by, nowhere, never}
use Rattle.hv_syn_exact.proofs.Lexemes.{After, a_mark, a_word, next_exact, bracketed_exact}
use Rattle.hv_syn_exact.proofs.Inner.{on_type}
use Rattle.hv_syn_exact.proofs.Shorts.{zero_at, off_at, on_at, empty_stops, stops_left, stops_right, front_stops, can_nothing, can_after, can_then}
use Rattle.hv_syn_exact.proofs.Separated.{separated_exact, separated_begins}
use Rattle.hv_syn_exact.proofs.ConvRules.{conv_exact}
use Rattle.hv_syn_exact.proofs.TypeRules.{type_exact, type_begins, type_no_conv}

-- ---- names

name_exact : (d : ℕ) → Exact d d nowhere IsName s.a_name
unfolding s.a_name
name_exact d =
    exact_by d d nowhere (After word (λ name. Nothing name)) IsName _ (next_exact _ _ _ a_word _ _ d d d nowhere (λ v. refl) (λ name. done_exact d nowhere name))
    (λ x ts a. record { is = a.3 ∙ ap (λ y. word a.0 ∷ y) a.2.1 ∙ ap (λ n. word n ∷ []) (sym a.2.0) })
    (λ x ts n. (x, [], (refl, refl), n.is))

abbrev pub on_names : Token → Bool
on_names k = is_mark (codes ",") k || is_word k

pub names_exact : (d : ℕ) → Exact d d on_names AreNames s.names
unfolding s.names
names_exact d =
    exact_by d d on_names (Either (Separated IsName) (Nothing [])) AreNames _
    (choose_exact d d is_word (Separated IsName) (Nothing []) _ _ on_names (λ k. is_mark (codes ",") k || nowhere k) nowhere
    (separated_exact IsName d nowhere s.a_name (name_exact d) (λ at. refl)) (done_exact d nowhere [])
    (λ l ts h. separated_begins IsName is_word (λ x us n. on_at is_word _ us [] n.is refl) l ts h)
    (λ l ts rest n h. empty_stops is_word ts rest n.1 (stops_right (is_mark (codes ",")) is_word rest h))
    (λ rest h. comma_only rest h) (λ rest h. never rest))
    to from
  where
    to : (l : List Name) (ts : Tokens) → Either (Separated IsName) (Nothing []) l ts → AreNames l ts
    to l ts (inl h) = some_names h
    to l ts (inr n) = no_names n.0 n.1

    from : (l : List Name) (ts : Tokens) → AreNames l ts → Either (Separated IsName) (Nothing []) l ts
    from l ts (no_names e e') = inr (e, e')
    from l ts (some_names h) = inl h

    or_none : (a : Bool) → a ≡ false → (a || false) ≡ false
    or_none true e = absurd (cc)
    or_none false e = refl

    comma_only : (rest : Tokens) → Stops on_names rest → Stops (λ k. is_mark (codes ",") k || nowhere k) rest
    comma_only [] h = tt
    comma_only (k ∷ rest) h = or_none (is_mark (codes ",") k) (stops_left (is_mark (codes ",")) is_word (k ∷ rest) h)

-- ---- parameters

abbrev ParamParts : Param → Tokens → Type 0
ParamParts = After word (λ name. After (mark (codes ":")) (λ colon. Then IsConv (λ c. Then IsType (λ t. Nothing (record { name = name; conv = c; ty = t })))))

to_param : (p : Param) (ts : Tokens) → ParamParts p ts → IsParam p ts
to_param p ts a =
    let b = a.2 in let c = b.2 in let t = c.4 in
    is_param a.0 b.0 c.0 t.0 c.1 t.1 c.3 t.3 t.4.0
    (a.3 ∙ ap (λ y. word a.0 ∷ y) (b.3 ∙ ap (λ y. mark (codes ":") b.0 ∷ y) (c.5 ∙ ap (λ y. c.1 ++ y) (t.5 ∙ ap (λ y. t.1 ++ y) t.4.1 ∙ append-nil t.1))))

from_param : (p : Param) (ts : Tokens) → IsParam p ts → ParamParts p ts
from_param p ts (is_param name colon c t a b x y e e') = (name, mark (codes ":") colon ∷ (a ++ b), (colon, a ++ b, (c, a, b, x, (t, b, [], y, (e, refl), sym (append-nil b)), refl), refl), e')

param_exact : (d : ℕ) → Exact d d on_type IsParam (s.param d)
unfolding s.param
param_exact d =
    exact_by d d on_type ParamParts IsParam _
    (next_exact _ _ _ a_word _ _ d d d on_type (λ v. refl)
    (λ name. next_exact _ _ _ (a_mark (codes ":")) _ _ d d d on_type (λ v. refl)
    (λ colon. then_exact d d d begins_conv on_type IsConv (λ c. Then IsType (λ t. Nothing (record { name = name; conv = c; ty = t }))) _ _ (conv_exact d)
    (λ c. then_exact d d d on_type on_type IsType (λ t. Nothing (record { name = name; conv = c; ty = t })) _ _ (type_exact d) (λ t. done_exact d on_type (record { name = name; conv = c; ty = t })) (λ t b y rest n h. empty_stops on_type y rest n.1 h))
    (λ c b y rest u h. front_stops begins_type begins_conv type_no_conv u.1 u.2 y rest (type_begins u.0 u.1 u.3) u.5))))
    to_param from_param

abbrev on_param : Token → Bool
on_param k = is_mark (codes ",") k || on_type k

-- what goes on after a list of parameters
abbrev pub on_params : Token → Bool
on_params k = on_param k || is_word k

pub params_exact : (d : ℕ) → Exact d d on_params AreParams (s.params d)
unfolding s.params
params_exact d =
    exact_by d d on_params (Either (Separated IsParam) (Nothing [])) AreParams _
    (choose_exact d d is_word (Separated IsParam) (Nothing []) _ _ on_params on_param nowhere
    (separated_exact IsParam d on_type (s.param d) (param_exact d) (λ at. refl)) (done_exact d nowhere [])
    (λ l ts h. separated_begins IsParam is_word begins l ts h)
    (λ l ts rest n h. empty_stops is_word ts rest n.1 (stops_right on_param is_word rest h))
    (λ rest h. stops_left on_param is_word rest h) (λ rest h. never rest))
    to from
  where
    begins : (p : Param) (ts : Tokens) → IsParam p ts → Begins is_word ts
    begins p ts (is_param name colon c t a b x y e e') = on_at is_word _ ts _ e' refl

    to : (l : List Param) (ts : Tokens) → Either (Separated IsParam) (Nothing []) l ts → AreParams l ts
    to l ts (inl h) = some_params h
    to l ts (inr n) = no_params n.0 n.1

    from : (l : List Param) (ts : Tokens) → AreParams l ts → Either (Separated IsParam) (Nothing []) l ts
    from l ts (no_params e e') = inr (e, e')
    from l ts (some_params h) = inl h

abbrev pub IsBracketedParams : List Param → Tokens → Type 0
IsBracketedParams = After (mark (codes "(")) (λ left. Then AreParams (λ ps. After (mark (codes ")")) (λ right. Nothing ps)))

pub one_less : (d n : ℕ) → d ≡ suc n → d - 1 ≡ n
one_less d n e = omega (arith, e)

pub bracketed_params_exact : (d : ℕ) → Exact d d nowhere IsBracketedParams (s.bracketed_params d)
unfolding s.bracketed_params
bracketed_params_exact d =
    bracketed_exact _ _ _ (a_mark (codes "(")) _ _ d d nowhere
    (λ left. can_then AreParams (λ ps. After (mark (codes ")")) (λ right. Nothing ps)) ([], [], no_params refl refl) (can_after _ _ zero_at (can_nothing [])))
    (λ v. refl)
    (λ n is left. then_exact n n d on_params nowhere _ _ (s.params (d - 1)) _ (subst (λ m. Exact n n on_params AreParams (s.params m)) (sym (one_less d n is)) (params_exact n))
    (λ ps. next_exact _ _ _ (a_mark (codes ")")) _ _ n d d nowhere (λ v. ap Some (sym is)) (λ right. done_exact d nowhere ps))
    (λ ps b y rest u h. off_at on_params _ y u.1 rest u.3 refl))

-- ---- results

abbrev Arrow : Option Ty → Tokens → Type 0
Arrow = After (mark (codes "->")) (λ arrow. Then IsType (λ t. Nothing (Some t)))

pub returned_exact : (d : ℕ) → Exact d d on_type IsReturn (s.returned d)
unfolding s.returned
returned_exact d =
    exact_by d d on_type (Either Arrow (Nothing None)) IsReturn _
    (choose_exact d d on_type Arrow (Nothing None) _ _ on_type on_type nowhere
    (next_exact _ _ _ (a_mark (codes "->")) _ _ d d d on_type (λ v. refl)
    (λ arrow. then_exact d d d on_type on_type IsType (λ t. Nothing (Some t)) _ _ (type_exact d) (λ t. done_exact d on_type (Some t)) (λ t b y rest n h. empty_stops on_type y rest n.1 h)))
    (done_exact d nowhere None)
    (λ x ts a. on_at on_type _ ts a.1 a.3 refl) (λ x ts rest n h. empty_stops on_type ts rest n.1 h) (λ rest h. h) (λ rest h. never rest))
    to from
  where
    to : (r : Option Ty) (ts : Tokens) → Either Arrow (Nothing None) r ts → IsReturn r ts
    to r ts (inl a) = let h = a.2 in one_return a.0 h.0 h.1 h.3 h.4.0 (a.3 ∙ ap (λ y. mark (codes "->") a.0 ∷ y) (h.5 ∙ ap (λ y. h.1 ++ y) h.4.1 ∙ append-nil h.1))
    to r ts (inr n) = no_return n.0 n.1

    from : (r : Option Ty) (ts : Tokens) → IsReturn r ts → Either Arrow (Nothing None) r ts
    from r ts (no_return e e') = inr (e, e')
    from r ts (one_return arrow t a h e e') = inl (arrow, a, (t, a, [], h, (e, refl), sym (append-nil a)), e')
