-- Lists of tokens that spell no expression: `- - 1`, `a < b < c` and `f(x)(y)`.
use Rattle.std.proofs.Common.{◌≡◌, ◌≢◌, ℕ, pos, List, [], ◌∷◌, ◌++◌, Bool, true, false, cond, ◌&&◌, ◌||◌, refl, sym, subst, ap, ◌∙◌, codes}
use Rattle.std.proofs.lemmas.List.{append_assoc}
use Rattle.hv_tree.specs.declared.place.Place.{Place}
use Rattle.hv_tree.specs.declared.token.Token.{Token}
use Rattle.hv_tree.specs.declared.token.TokenKind.{TokenKind}
use Rattle.hv_tree.specs.declared.token.TokenKind.TheVariants as kind
use Rattle.hv_tree.specs.declared.ast.Operator.{Operator}
use Rattle.hv_tree.specs.declared.ast.Expr.{Expr}
use Rattle.hv_tree.specs.declared.ast.Step.{Step}
use Rattle.hv_tree.specs.declared.ast.Arg.{Arg}
use Rattle.hv_tree.specs.declared.ast.Call.{Call}
use Rattle.hv_tree.specs.Tokens.{Tokens, mark, word, number, Level, Ors, Ands, Comparisons, Sums, Products, IsInfix, or_sign, and_sign, eq_sign, ne_sign, lt_sign, le_sign, gt_sign, ge_sign, add_sign, sub_sign, mul_sign, div_sign, rem_sign}
use Rattle.hv_tree.specs.Refusal.{is_mark}
use Rattle.hv_tree.specs.Grammar.{IsOperand, and_operand, comparison_operand, sum_operand, product_operand, unary_operand, IsLevel, alone_level, chain_level, AreLinks, last_link, more_link, IsUnary, plain_unary, negated_unary, inverted_unary, IsPrimary, numeral_primary, truth_primary, falsehood_primary, path_primary, call_primary, group_primary, await_primary, array_primary, filled_primary, count_primary, lambda_primary, AreElements, one_element, more_element, AreSteps, none_step, field_step, index_step, IsCall, is_call, AreArgs, none_args, some_args, AreSomeArgs, one_arg, more_arg, IsArg, value_argument, ref_argument}

impossible : {A : Type 0} → false ≡ true → A
impossible h = cc

-- ---- two signs at the front

abbrev is_sign : Token → Bool
is_sign k = is_mark (codes "-") k || is_mark (codes "!") k

-- no sign at the front
abbrev Plain : Tokens → Type 0
Plain [] = ⊥
Plain (k ∷ ts) = is_sign k ≡ false

-- not two signs at the front, and no sign alone
abbrev Fine : Tokens → Type 0
Fine [] = ⊥
Fine (k ∷ []) = is_sign k ≡ false
Fine (k ∷ j ∷ ts) = (is_sign k && is_sign j) ≡ false

none_then : (x y : Bool) → x ≡ false → (x && y) ≡ false
none_then x y e = rw e refl

plain_fine : (ts : Tokens) → Plain ts → Fine ts
plain_fine [] h = absurd h
plain_fine (k ∷ []) h = h
plain_fine (k ∷ j ∷ ts) h = none_then (is_sign k) (is_sign j) h

fine_more : (a b : Tokens) → Fine a → Fine (a ++ b)
fine_more [] b h = absurd h
fine_more (k ∷ []) [] h = h
fine_more (k ∷ []) (j ∷ b) h = none_then (is_sign k) (is_sign j) h
fine_more (k ∷ j ∷ a) b h = h

second : (x : Bool) → (x && false) ≡ false
second true = refl
second false = refl

signed_fine : (k : Token) (a : Tokens) → Plain a → Fine (k ∷ a)
signed_fine k [] h = absurd h
signed_fine k (j ∷ a) h = rw h (second (is_sign k))

plain_from : {ts us : Tokens} → ts ≡ us → Plain us → Plain ts
plain_from e h = subst Plain (sym e) h

fine_from : {ts us : Tokens} → ts ≡ us → Fine us → Fine ts
fine_from e h = subst Fine (sym e) h

call_plain : {at : Place} {c : Call} {ts : Tokens} → IsCall at c ts → Plain ts
call_plain (is_call root steps paren right args a b s r p e t) = plain_from t refl

primary_plain : {x : Expr} {ts : Tokens} → IsPrimary x ts → Plain ts
primary_plain (numeral_primary at v e t) = plain_from t refl
primary_plain (truth_primary at e t) = plain_from t refl
primary_plain (falsehood_primary at e t) = plain_from t refl
primary_plain (path_primary root steps a s e t) = plain_from t refl
primary_plain (call_primary at c h e) = call_plain h
primary_plain (group_primary left right a h t) = plain_from t refl
primary_plain (await_primary at name e t) = plain_from t refl
primary_plain (array_primary left right xs a h e t) = plain_from t refl
primary_plain (filled_primary at left comma right len value a b h g e t) = plain_from t refl
primary_plain (count_primary at left right root steps a s e t) = plain_from t refl
primary_plain (lambda_primary at o1 c1 o2 c2 captures params result body a b c d n q r h e t) = plain_from t refl

unary_fine : {x : Expr} {ts : Tokens} → IsUnary x ts → Fine ts
unary_fine {ts = ts} (plain_unary h) = plain_fine ts (primary_plain h)
unary_fine (negated_unary at x a h e t) = fine_from t (signed_fine (mark (codes "-") at) a (primary_plain h))
unary_fine (inverted_unary at x a h e t) = fine_from t (signed_fine (mark (codes "!") at) a (primary_plain h))

mutual
  operand_fine : {l : Level} {x : Expr} {ts : Tokens} → IsOperand l x ts → Fine ts
  operand_fine (and_operand e h) = level_fine h
  operand_fine (comparison_operand e h) = level_fine h
  operand_fine (sum_operand e h) = level_fine h
  operand_fine (product_operand e h) = level_fine h
  operand_fine (unary_operand e h) = unary_fine h

  level_fine : {l : Level} {x : Expr} {ts : Tokens} → IsLevel l x ts → Fine ts
  level_fine (alone_level h) = operand_fine h
  level_fine (chain_level first links a b h g e t) = fine_from t (fine_more a b (operand_fine h))

pub not_two_signs : (p : Place) (x : Expr) (l : Level) → IsLevel l x (mark (codes "-") p ∷ mark (codes "-") p ∷ number (pos 1) p ∷ []) → ⊥
not_two_signs p x l h = let e : true ≡ false = level_fine h in impossible (sym e)

-- ---- a `(` behind a `)`, and two comparisons with nothing between that parts them

abbrev is_comparison : Token → Bool
is_comparison k = is_mark (codes "==") k || (is_mark (codes "!=") k || (is_mark (codes "<") k || (is_mark (codes "<=") k || (is_mark (codes ">") k || is_mark (codes ">=") k))))

-- what parts two comparisons
abbrev is_joint : Token → Bool
is_joint k =
    is_mark (codes "&&") k || (is_mark (codes "||") k || (is_mark (codes ",") k ||
    (is_mark (codes "(") k || (is_mark (codes ")") k || (is_mark (codes "[") k || is_mark (codes "]") k)))))

-- whether the tokens can follow, behind a `)` or not, and behind a comparison that nothing has parted yet or not
abbrev ok : Bool → Bool → Tokens → Bool
ok c f [] = true
ok c f (k ∷ ts) =
    cond (is_mark (codes "(") k && c) false
    (cond (is_comparison k) (cond f false (ok false true ts)) (ok (is_mark (codes ")") k) (cond (is_joint k) false f) ts))

pick : (a b x y z : Bool) → cond a false (cond b false x) ≡ true → (x ≡ true → y ≡ true) → cond a false (cond b z y) ≡ true
pick true b x y z h g = impossible h
pick false true x y z h g = impossible h
pick false false x y z h g = g h

parted : (j c : Bool) (ts : Tokens) → (ok c true ts ≡ true → ok c false ts ≡ true) → ok c (cond j false true) ts ≡ true → ok c (cond j false false) ts ≡ true
parted true c ts g h = h
parted false c ts g h = g h

-- what can follow a comparison can follow where there is none
low_true : (c : Bool) (ts : Tokens) → ok c true ts ≡ true → ok c false ts ≡ true
low_true c [] h = refl
low_true c (k ∷ ts) h =
    pick (is_mark (codes "(") k && c) (is_comparison k) (ok (is_mark (codes ")") k) (cond (is_joint k) false true) ts) (ok (is_mark (codes ")") k) (cond (is_joint k) false false) ts) (ok false true ts) h
    (parted (is_joint k) (is_mark (codes ")") k) ts (low_true (is_mark (codes ")") k) ts))

low : (c f : Bool) (ts : Tokens) → ok c f ts ≡ true → ok c false ts ≡ true
low c true ts h = low_true c ts h
low c false ts h = h

left_out : (a x : Bool) → cond a false x ≡ true → x ≡ true
left_out true x h = impossible h
left_out false x h = h

open_up : (b x : Bool) → cond (b && true) false x ≡ true → cond (b && false) false x ≡ true
open_up true x h = impossible h
open_up false x h = h

-- what can follow a `)` can follow anything
behind : (f : Bool) (ts : Tokens) → ok true f ts ≡ true → ok false f ts ≡ true
behind f [] h = refl
behind f (k ∷ ts) h =
    open_up (is_mark (codes "(") k) (cond (is_comparison k) (cond f false (ok false true ts)) (ok (is_mark (codes ")") k) (cond (is_joint k) false f) ts)) h

-- what may follow a part may follow it in the whole
abbrev Loose : Tokens → Type 0
Loose ts = (rest : Tokens) → ok true true rest ≡ true → ok false false (ts ++ rest) ≡ true

abbrev Tight : Tokens → Type 0
Tight ts = (f : Bool) (rest : Tokens) → ok true f rest ≡ true → ok false f (ts ++ rest) ≡ true

abbrev Passed : Tokens → Type 0
Passed ts = (f : Bool) (rest : Tokens) → ok false f rest ≡ true → ok false f (ts ++ rest) ≡ true

abbrev OperandGood : Level → Tokens → Type 0
OperandGood Ors ts = Loose ts
OperandGood Ands ts = Loose ts
OperandGood Comparisons ts = Tight ts
OperandGood Sums ts = Tight ts
OperandGood Products ts = Tight ts

abbrev LevelGood : Level → Tokens → Type 0
LevelGood Ors ts = Loose ts
LevelGood Ands ts = Loose ts
LevelGood Comparisons ts = Loose ts
LevelGood Sums ts = Tight ts
LevelGood Products ts = Tight ts

-- of the operators and operands behind the first
abbrev LinksGood : Level → Tokens → Type 0
LinksGood Ors ts = (rest : Tokens) → ok true true rest ≡ true → ok true true (ts ++ rest) ≡ true
LinksGood Ands ts = (rest : Tokens) → ok true true rest ≡ true → ok true true (ts ++ rest) ≡ true
LinksGood Comparisons ts = (rest : Tokens) → ok true true rest ≡ true → ok true false (ts ++ rest) ≡ true
LinksGood Sums ts = (f : Bool) (rest : Tokens) → ok true f rest ≡ true → ok true f (ts ++ rest) ≡ true
LinksGood Products ts = (f : Bool) (rest : Tokens) → ok true f rest ≡ true → ok true f (ts ++ rest) ≡ true

abbrev SignGood : Level → Token → Type 0
SignGood Ors k = (f : Bool) (ts : Tokens) → ok false false ts ≡ true → ok true f (k ∷ ts) ≡ true
SignGood Ands k = (f : Bool) (ts : Tokens) → ok false false ts ≡ true → ok true f (k ∷ ts) ≡ true
SignGood Comparisons k = (f : Bool) (ts : Tokens) → ok false true ts ≡ true → ok true false (k ∷ ts) ≡ true
SignGood Sums k = (f : Bool) (ts : Tokens) → ok false f ts ≡ true → ok true f (k ∷ ts) ≡ true
SignGood Products k = (f : Bool) (ts : Tokens) → ok false f ts ≡ true → ok true f (k ∷ ts) ≡ true

sign_good : {at : Place} {l : Level} {o : Operator} {k : Token} → IsInfix at l o k → SignGood l k
sign_good or_sign = λ f ts h. h
sign_good and_sign = λ f ts h. h
sign_good eq_sign = λ f ts h. h
sign_good ne_sign = λ f ts h. h
sign_good lt_sign = λ f ts h. h
sign_good le_sign = λ f ts h. h
sign_good gt_sign = λ f ts h. h
sign_good ge_sign = λ f ts h. h
sign_good add_sign = λ f ts h. h
sign_good sub_sign = λ f ts h. h
sign_good mul_sign = λ f ts h. h
sign_good div_sign = λ f ts h. h
sign_good rem_sign = λ f ts h. h

-- the rest behind two parts
abbrev Ok : Bool → Bool → Tokens → Type 0
Ok c f ts = ok c f ts ≡ true

regroup : (c f : Bool) (a b rest : Tokens) → Ok c f (a ++ (b ++ rest)) → Ok c f ((a ++ b) ++ rest)
regroup c f a b rest h = rw (append_assoc a b rest) h

promote : (l : Level) (ts : Tokens) → OperandGood l ts → LevelGood l ts
promote Ors ts g = g
promote Ands ts g = g
promote Comparisons ts g = λ rest h. low false true (ts ++ rest) (g true rest h)
promote Sums ts g = g
promote Products ts g = g

one_link : (l : Level) (k : Token) (a : Tokens) → SignGood l k → OperandGood l a → LinksGood l (k ∷ a)
one_link Ors k a s g = λ rest h. s true (a ++ rest) (g rest h)
one_link Ands k a s g = λ rest h. s true (a ++ rest) (g rest h)
one_link Comparisons k a s g = λ rest h. s true (a ++ rest) (g true rest h)
one_link Sums k a s g = λ f rest h. s f (a ++ rest) (g f rest h)
one_link Products k a s g = λ f rest h. s f (a ++ rest) (g f rest h)

more_links : (l : Level) (k : Token) (a b : Tokens) → l ≢ Comparisons → SignGood l k → OperandGood l a → LinksGood l b → LinksGood l (k ∷ (a ++ b))
more_links Ors k a b n s g m = λ rest h. s true ((a ++ b) ++ rest) (regroup false false a b rest (g (b ++ rest) (m rest h)))
more_links Ands k a b n s g m = λ rest h. s true ((a ++ b) ++ rest) (regroup false false a b rest (g (b ++ rest) (m rest h)))
more_links Comparisons k a b n s g m = absurd (n refl)
more_links Sums k a b n s g m = λ f rest h. s f ((a ++ b) ++ rest) (regroup false f a b rest (g f (b ++ rest) (m f rest h)))
more_links Products k a b n s g m = λ f rest h. s f ((a ++ b) ++ rest) (regroup false f a b rest (g f (b ++ rest) (m f rest h)))

chain_good : (l : Level) (a b : Tokens) → OperandGood l a → LinksGood l b → LevelGood l (a ++ b)
chain_good Ors a b g m = λ rest h. regroup false false a b rest (g (b ++ rest) (m rest h))
chain_good Ands a b g m = λ rest h. regroup false false a b rest (g (b ++ rest) (m rest h))
chain_good Comparisons a b g m = λ rest h. regroup false false a b rest (g false (b ++ rest) (m rest h))
chain_good Sums a b g m = λ f rest h. regroup false f a b rest (g f (b ++ rest) (m f rest h))
chain_good Products a b g m = λ f rest h. regroup false f a b rest (g f (b ++ rest) (m f rest h))

-- ---- lists without keywords

abbrev is_keyword_kind : TokenKind → Bool
is_keyword_kind (kind.Word t) = false
is_keyword_kind (kind.Keyword t) = true
is_keyword_kind (kind.Number z) = false
is_keyword_kind (kind.Mark t) = false

abbrev free : Tokens → Bool
free [] = true
free (k ∷ ts) = cond (is_keyword_kind k.kind) false (free ts)

free_tail : (k : Token) (ts : Tokens) → free (k ∷ ts) ≡ true → free ts ≡ true
free_tail k ts h = left_out (is_keyword_kind k.kind) (free ts) h

kept : (t x y : Bool) → cond t false x ≡ true → (x ≡ true → y ≡ true) → cond t false y ≡ true
kept true x y h g = impossible h
kept false x y h g = g h

free_front : (a b : Tokens) → free (a ++ b) ≡ true → free a ≡ true
free_front [] b h = refl
free_front (k ∷ a) b h = kept (is_keyword_kind k.kind) (free (a ++ b)) (free a) h (free_front a b)

free_back : (a b : Tokens) → free (a ++ b) ≡ true → free b ≡ true
free_back [] b h = h
free_back (k ∷ a) b h = free_back a b (free_tail k (a ++ b) h)

free_from : {ts us : Tokens} → ts ≡ us → free ts ≡ true → free us ≡ true
free_from e h = ap free (sym e) ∙ h

tight_from : {ts us : Tokens} → ts ≡ us → Tight us → Tight ts
tight_from e h = subst Tight (sym e) h

loose_from : {ts us : Tokens} → ts ≡ us → Loose us → Loose ts
loose_from e h = subst Loose (sym e) h

passed_from : {ts us : Tokens} → ts ≡ us → Passed us → Passed ts
passed_from e h = subst Passed (sym e) h

level_from : (l : Level) {ts us : Tokens} → ts ≡ us → LevelGood l us → LevelGood l ts
level_from l e h = subst (λ (ts : Tokens). LevelGood l ts) (sym e) h

links_from : (l : Level) {ts us : Tokens} → ts ≡ us → LinksGood l us → LinksGood l ts
links_from l e h = subst (λ (ts : Tokens). LinksGood l ts) (sym e) h

at_level : {l : Level} (m : Level) (ts : Tokens) → l ≡ m → OperandGood m ts → OperandGood l ts
at_level m ts e h = subst (λ (l : Level). OperandGood l ts) (sym e) h

-- a part in brackets, or one between a bracket and a comma
inside : (a : Tokens) (k : Token) (b rest : Tokens) → Loose a → Ok true true (k ∷ (b ++ rest)) → Ok false false ((a ++ k ∷ b) ++ rest)
inside a k b rest g h = regroup false false a (k ∷ b) rest (g (k ∷ (b ++ rest)) h)

mutual
  operand_good : {l : Level} {x : Expr} {ts : Tokens} → IsOperand l x ts → free ts ≡ true → OperandGood l ts
  operand_good {ts = ts} (and_operand e h) u = at_level Ors ts e (level_good h u)
  operand_good {ts = ts} (comparison_operand e h) u = at_level Ands ts e (level_good h u)
  operand_good {ts = ts} (sum_operand e h) u = at_level Comparisons ts e (level_good h u)
  operand_good {ts = ts} (product_operand e h) u = at_level Sums ts e (level_good h u)
  operand_good {ts = ts} (unary_operand e h) u = at_level Products ts e (unary_good h u)

  level_good : {l : Level} {x : Expr} {ts : Tokens} → IsLevel l x ts → free ts ≡ true → LevelGood l ts
  level_good {l = l} {ts = ts} (alone_level h) u = promote l ts (operand_good h u)
  level_good {l = l} (chain_level first links a b h g e t) u =
      level_from l t (chain_good l a b (operand_good h (free_front a b (free_from t u))) (links_good g (free_back a b (free_from t u))))

  links_good : {l : Level} {links : List (Operator × Place × Expr)} {ts : Tokens} → AreLinks l links ts → free ts ≡ true → LinksGood l ts
  links_good {l = l} (last_link o at k x a i h e t) u = links_from l t (one_link l k a (sign_good i) (operand_good h (free_tail k a (free_from t u))))
  links_good {l = l} (more_link o at k x more a b n i h g e t) u =
      let v : free (a ++ b) ≡ true = free_tail k (a ++ b) (free_from t u) in
      links_from l t (more_links l k a b n (sign_good i) (operand_good h (free_front a b v)) (links_good g (free_back a b v)))

  unary_good : {x : Expr} {ts : Tokens} → IsUnary x ts → free ts ≡ true → Tight ts
  unary_good (plain_unary h) u = primary_good h u
  unary_good (negated_unary at x a h e t) u = tight_from t (primary_good h (free_tail (mark (codes "-") at) a (free_from t u)))
  unary_good (inverted_unary at x a h e t) u = tight_from t (primary_good h (free_tail (mark (codes "!") at) a (free_from t u)))

  primary_good : {x : Expr} {ts : Tokens} → IsPrimary x ts → free ts ≡ true → Tight ts
  primary_good (numeral_primary at v e t) u = tight_from t (λ f rest h. behind f rest h)
  primary_good (truth_primary at e t) u = impossible (free_from t u)
  primary_good (falsehood_primary at e t) u = impossible (free_from t u)
  primary_good (path_primary root steps a s e t) u = tight_from t (λ f rest h. steps_good s (free_tail (word root) a (free_from t u)) f rest (behind f rest h))
  primary_good (call_primary at c h e) u = call_good h u
  primary_good (group_primary left right a h t) u =
      let v : free (a ++ mark (codes ")") right ∷ []) ≡ true = free_tail (mark (codes "(") left) (a ++ mark (codes ")") right ∷ []) (free_from t u) in
      tight_from t (λ f rest g. inside a (mark (codes ")") right) [] rest (level_good h (free_front a (mark (codes ")") right ∷ []) v)) (low true f rest g))
  primary_good (await_primary at name e t) u = impossible (free_from t u)
  primary_good (array_primary left right xs a h e t) u =
      let v : free (a ++ mark (codes "]") right ∷ []) ≡ true = free_tail (mark (codes "[") left) (a ++ mark (codes "]") right ∷ []) (free_from t u) in
      tight_from t (λ f rest g. inside a (mark (codes "]") right) [] rest (elements_good h (free_front a (mark (codes "]") right ∷ []) v)) (low false f rest (behind f rest g)))
  primary_good (filled_primary at left comma right len value a b h g e t) u = impossible (free_from t u)
  primary_good (count_primary at left right root steps a s e t) u = impossible (free_from t u)
  primary_good (lambda_primary at o1 c1 o2 c2 captures params result body a b c d n q r h e t) u = impossible (free_from t u)

  elements_good : {xs : List Expr} {ts : Tokens} → AreElements xs ts → free ts ≡ true → Loose ts
  elements_good (one_element x h e) u = level_good h u
  elements_good (more_element x more comma a b h g e t) u =
      let v : free (a ++ mark (codes ",") comma ∷ b) ≡ true = free_from t u in
      loose_from t (λ rest i. inside a (mark (codes ",") comma) b rest (level_good h (free_front a (mark (codes ",") comma ∷ b) v))
      (elements_good g (free_tail (mark (codes ",") comma) b (free_back a (mark (codes ",") comma ∷ b) v)) rest i))

  steps_good : {steps : List Step} {ts : Tokens} → AreSteps steps ts → free ts ≡ true → Passed ts
  steps_good (none_step e t) u = passed_from t (λ f rest h. h)
  steps_good (field_step dot name more a h e t) u = passed_from t (steps_good h (free_tail (word name) a (free_tail (mark (codes ".") dot) (word name ∷ a) (free_from t u))))
  steps_good (index_step left right x more a b h g e t) u =
      let v : free (a ++ mark (codes "]") right ∷ b) ≡ true = free_tail (mark (codes "[") left) (a ++ mark (codes "]") right ∷ b) (free_from t u) in
      passed_from t (λ f rest i. (inside a (mark (codes "]") right) b rest (level_good h (free_front a (mark (codes "]") right ∷ b) v))
      (steps_good g (free_tail (mark (codes "]") right) b (free_back a (mark (codes "]") right ∷ b) v)) false rest (low false f rest i))))

  call_good : {at : Place} {c : Call} {ts : Tokens} → IsCall at c ts → free ts ≡ true → Tight ts
  call_good (is_call root steps paren right args a b s r p e t) u =
      let close : Tokens = mark (codes ")") right ∷ [] in
      let tail : Tokens = mark (codes "(") paren ∷ (b ++ mark (codes ")") right ∷ []) in
      let v : free (a ++ tail) ≡ true = free_tail (word root) (a ++ tail) (free_from t u) in
      let w : free (b ++ close) ≡ true = free_tail (mark (codes "(") paren) (b ++ close) (free_back a tail v) in
      tight_from t (λ f rest h. regroup false f a tail rest (steps_good s (free_front a tail v) f (tail ++ rest)
      (inside b (mark (codes ")") right) [] rest (args_good r (free_front b close w)) (low true f rest h))))

  args_good : {args : List Arg} {ts : Tokens} → AreArgs args ts → free ts ≡ true → Loose ts
  args_good (none_args e t) u = loose_from t (λ rest h. low false true rest (behind true rest h))
  args_good (some_args h) u = some_good h u

  some_good : {args : List Arg} {ts : Tokens} → AreSomeArgs args ts → free ts ≡ true → Loose ts
  some_good (one_arg x h e) u = arg_good h u
  some_good (more_arg x more comma a b h g e t) u =
      let v : free (a ++ mark (codes ",") comma ∷ b) ≡ true = free_from t u in
      loose_from t (λ rest i. inside a (mark (codes ",") comma) b rest (arg_good h (free_front a (mark (codes ",") comma ∷ b) v))
      (some_good g (free_tail (mark (codes ",") comma) b (free_back a (mark (codes ",") comma ∷ b) v)) rest i))

  arg_good : {x : Arg} {ts : Tokens} → IsArg x ts → free ts ≡ true → Loose ts
  arg_good (value_argument v h e) u = level_good h u
  arg_good (ref_argument at root steps a s e t) u =
      loose_from t (λ rest h. steps_good s (free_tail (word root) a (free_tail (mark (codes "&") at) (word root ∷ a) (free_from t u))) false rest (low false true rest (behind true rest h)))

spelled_ok : {x : Expr} (ts : Tokens) → IsLevel Ors x ts → free ts ≡ true → ok false false (ts ++ []) ≡ true
spelled_ok ts h u = level_good h u [] refl

module _ (p : Place) where
  abbrev m : List ℕ → Token
  m s = mark s p

  abbrev w : List ℕ → Token
  w s = word (record { text = s; place = p })

  pub not_two_comparisons : (x : Expr) → IsLevel Ors x (w (codes "a") ∷ m (codes "<") ∷ w (codes "b") ∷ m (codes "<") ∷ w (codes "c") ∷ []) → ⊥
  not_two_comparisons x h = impossible (spelled_ok _ h refl)

  pub not_two_calls : (x : Expr) → IsLevel Ors x (w (codes "f") ∷ m (codes "(") ∷ w (codes "x") ∷ m (codes ")") ∷ m (codes "(") ∷ w (codes "y") ∷ m (codes ")") ∷ []) → ⊥
  not_two_calls x h = impossible (spelled_ok _ h refl)
