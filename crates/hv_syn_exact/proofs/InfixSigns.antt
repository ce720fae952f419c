-- The signs of binary operators, and an operator with the operand after it.
use Rattle.std.proofs.Common.{◌≡◌, ℕ, Bool, true, false, List, [], ◌∷◌, ◌++◌, Option, Some, None, refl, sym, ◌∙◌, ap, subst}
use Rattle.std.specs.Prelude.{if◌then◌else◌}
use Rattle.std.specs.Str.{bytes_eq}
use Rattle.std.proofs.lemmas.Slice.Eq.{bytes_eq-Decides}
use Rattle.hv_tree.specs.declared.place.Place.{Place}
use Rattle.hv_tree.specs.declared.token.Token.{Token}
use Rattle.hv_tree.specs.declared.token.TokenKind.{TokenKind}
use Rattle.hv_tree.specs.declared.token.TokenKind.TheVariants as kind
use Rattle.hv_tree.specs.declared.ast.Operator.{Operator}
use Rattle.hv_tree.specs.declared.ast.Expr.{Expr}
use Rattle.hv_tree.specs.Tokens.{Tokens, mark, Level, Ors, Ands, Comparisons, Sums, Products, IsInfix, or_sign, and_sign, eq_sign, ne_sign, lt_sign, le_sign, gt_sign, ge_sign, add_sign, sub_sign, mul_sign, div_sign, rem_sign}
use Rattle.hv_syn_grammar.specs.Parser.{Parser, take}
use Rattle.hv_syn_grammar.specs.Room.{room}
use Rattle.hv_syn_grammar.specs.Levels.{infixes, entry, entry_kind, has, or_add, is_infix, operator_of}
use Rattle.hv_syn_grammar.specs.Expressions.{Link, link}
use Rattle.hv_syn_exact.proofs.Exact.{Exact, Begins, Then, One, take_exact, then_exact, nowhere, never}
use Rattle.hv_syn_exact.proofs.Shorts.{on_at}
use Rattle.hv_syn_exact.proofs.Between.{Mapped, mapped_exact, mapped_parts, mapped_by}

-- ---- tables of operators

abbrev pub Table : Type 0
Table = List (List ℕ × Operator)

abbrev pub AllEntries : (List ℕ → Operator → Type 0) → Table → Type 0
AllEntries P [] = Unit {0}
AllEntries P (x ∷ more) = P x.0 x.1 × AllEntries P more

entry_has : (P : List ℕ → Operator → Type 0) (table : Table) (text : List ℕ) (op : Operator) → entry table text ≡ Some op → AllEntries P table → P text op
entry_has P [] text op e all = absurd (cc)
entry_has P (x ∷ more) text op e all = at_first (λ e. entry_has P more text op e all.1) (bytes_eq text x.0) refl e
  where
    at_first : (entry more text ≡ Some op → P text op) → (b : Bool) → bytes_eq text x.0 ≡ b → (if b then Some x.1 else entry more text) ≡ Some op → P text op
    at_first ih true same e =
        let spelled : text ≡ x.0 = (bytes_eq-Decides text x.0).0 same in
        let means : x.1 ≡ op = cc in
        subst (λ op. P text op) means (subst (λ text. P text x.1) (sym spelled) all.0)
    at_first ih false same e = ih e

pub record Known (l : Level) (k : Token) : Type 0 where
  pub text : List ℕ
  pub found : entry (infixes l) text ≡ Some (operator_of l k)
  pub is : k ≡ mark text k.place

has_some : (o : Option Operator) → has o ≡ true → o ≡ Some (or_add o)
has_some (Some op) e = refl
has_some None e = absurd (cc)

infix_kind : (l : Level) (m : TokenKind) → has (entry_kind l m) ≡ true → (text : List ℕ) × (m ≡ kind.Mark text) × (entry (infixes l) text ≡ Some (or_add (entry_kind l m)))
infix_kind l (kind.Mark text) e = (text, refl, has_some (entry (infixes l) text) e)
infix_kind l (kind.Word t) e = absurd (cc)
infix_kind l (kind.Keyword t) e = absurd (cc)
infix_kind l (kind.Number n) e = absurd (cc)

infix_known : (l : Level) (k : Token) → is_infix l k ≡ true → Known l k
infix_known l k e = let i = infix_kind l k.kind e in record { text = i.0; found = i.2; is = ap (λ m. record { kind = m; place = k.place }) i.1 }

-- what all operators of the level fail
pub infix_fails : (l : Level) (on : Token → Bool) → ((at : Place) → AllEntries (λ text op. on (mark text at) ≡ false) (infixes l)) → (k : Token) → is_infix l k ≡ true → on k ≡ false
infix_fails l on all k e = let i = infix_known l k e in ap on i.is ∙ entry_has (λ text op. on (mark text k.place) ≡ false) (infixes l) i.text (operator_of l k) i.found (all k.place)

-- ---- the table and the signs

all_signs : (l : Level) (at : Place) → AllEntries (λ text op. IsInfix at l op (mark text at)) (infixes l)
all_signs Ors at = (or_sign, tt)
all_signs Ands at = (and_sign, tt)
all_signs Comparisons at = (eq_sign, (ne_sign, (lt_sign, (le_sign, (gt_sign, (ge_sign, tt))))))
all_signs Sums at = (add_sign, (sub_sign, tt))
all_signs Products at = (mul_sign, (div_sign, (rem_sign, tt)))

pub to_sign : (l : Level) (k : Token) → is_infix l k ≡ true → IsInfix k.place l (operator_of l k) k
to_sign l k e =
    let i = infix_known l k e in
    subst (IsInfix k.place l (operator_of l k)) (sym i.is) (entry_has (λ text op. IsInfix k.place l op (mark text k.place)) (infixes l) i.text (operator_of l k) i.found (all_signs l k.place))

pub record Sign (l : Level) (op : Operator) (at : Place) (k : Token) : Type 0 where
  pub passes : is_infix l k ≡ true
  pub means : operator_of l k ≡ op
  pub stands : k.place ≡ at

pub from_sign : (l : Level) (op : Operator) (at : Place) (k : Token) → IsInfix at l op k → Sign l op at k
from_sign l op at k or_sign = record { passes = refl; means = refl; stands = refl }
from_sign l op at k and_sign = record { passes = refl; means = refl; stands = refl }
from_sign l op at k eq_sign = record { passes = refl; means = refl; stands = refl }
from_sign l op at k ne_sign = record { passes = refl; means = refl; stands = refl }
from_sign l op at k lt_sign = record { passes = refl; means = refl; stands = refl }
from_sign l op at k le_sign = record { passes = refl; means = refl; stands = refl }
from_sign l op at k gt_sign = record { passes = refl; means = refl; stands = refl }
from_sign l op at k ge_sign = record { passes = refl; means = refl; stands = refl }
from_sign l op at k add_sign = record { passes = refl; means = refl; stands = refl }
from_sign l op at k sub_sign = record { passes = refl; means = refl; stands = refl }
from_sign l op at k mul_sign = record { passes = refl; means = refl; stands = refl }
from_sign l op at k div_sign = record { passes = refl; means = refl; stands = refl }
from_sign l op at k rem_sign = record { passes = refl; means = refl; stands = refl }

-- a sign is no bracket
sign_room : (d : ℕ) (l : Level) (op : Operator) (at : Place) (k : Token) → IsInfix at l op k → room d (k ∷ []) ≡ Some d
sign_room d l op at k or_sign = refl
sign_room d l op at k and_sign = refl
sign_room d l op at k eq_sign = refl
sign_room d l op at k ne_sign = refl
sign_room d l op at k lt_sign = refl
sign_room d l op at k le_sign = refl
sign_room d l op at k gt_sign = refl
sign_room d l op at k ge_sign = refl
sign_room d l op at k add_sign = refl
sign_room d l op at k sub_sign = refl
sign_room d l op at k mul_sign = refl
sign_room d l op at k div_sign = refl
sign_room d l op at k rem_sign = refl

-- ---- an operator and an operand

abbrev pub link_by : Level → Token → Expr → Link
link_by l k x = (operator_of l k, k.place, x)

abbrev pub LinkBy : Level → (Expr → Tokens → Type 0) → Link → Tokens → Type 0
LinkBy l P = Then (One (is_infix l)) (λ k. Mapped P (link_by l k))

pub link_exact : (d : ℕ) (l : Level) (P : Expr → Tokens → Type 0) (on : Token → Bool) (operand : Parser Expr) → Exact d d on P operand → (some : Token) → is_infix l some ≡ true → Exact d d on (LinkBy l P) (link l operand)
unfolding link
link_exact d l P on operand O some passed =
    then_exact d d d nowhere on (One (is_infix l)) (λ k. Mapped P (link_by l k)) (take (is_infix l)) _
    (take_exact d d (is_infix l) some passed (λ k e. sign_room d l (operator_of l k) k.place k (to_sign l k e)) nowhere)
    (λ k. mapped_exact d d on P operand (link_by l k) O)
    (λ k b y rest t s. never (y ++ rest))

pub link_begins : (l : Level) (P : Expr → Tokens → Type 0) (y : Link) (ts : Tokens) → LinkBy l P y ts → Begins (is_infix l) ts
link_begins l P y ts t = on_at (is_infix l) t.0 ts t.2 (t.5 ∙ ap (λ z. z ++ t.2) t.3.1) t.3.0

pub record LinkParts (l : Level) (P : Expr → Tokens → Type 0) (y : Link) (ts : Tokens) : Type 0 where
  pub sign : Token
  pub operand : Expr
  pub front : Tokens
  pub spelled : IsInfix sign.place l (operator_of l sign) sign
  pub reads : P operand front
  pub value : y ≡ link_by l sign operand
  pub is : ts ≡ sign ∷ front

pub link_parts : (l : Level) (P : Expr → Tokens → Type 0) (y : Link) (ts : Tokens) → LinkBy l P y ts → LinkParts l P y ts
link_parts l P y ts t =
    let m = mapped_parts P (link_by l t.0) y t.2 t.4 in
    record {
      sign = t.0;
      operand = m.0;
      front = t.2;
      spelled = to_sign l t.0 t.3.0;
      reads = m.1;
      value = m.2;
      is = t.5 ∙ ap (λ z. z ++ t.2) t.3.1;
    }

pub linked_by : (l : Level) (P : Expr → Tokens → Type 0) (op : Operator) (at : Place) (sign : Token) (x : Expr) (a : Tokens) → IsInfix at l op sign → P x a → LinkBy l P (op, at, x) (sign ∷ a)
linked_by l P op at sign x a spelled h =
    let s = from_sign l op at sign spelled in
    let value : link_by l sign x ≡ (op, at, x) = ap (λ op. (op, sign.place, x)) s.means ∙ ap (λ at. (op, at, x)) s.stands in
    (sign, sign ∷ [], a, (s.passes, refl), mapped_by P (link_by l sign) x (op, at, x) a h (sym value), refl)
