-- Values of expressions by what is known of their types, and values that positions and operators ask for.
use Rattle.std.proofs.Common.{◌≡◌, ◌≢◌, ℕ, zero, suc, ℤ, pos, negsuc, ◌+ℤ◌, ◌-ℤ◌, ◌*ℤ◌, int_div, int_rem, neg_ℤ, Bool, true, false, if◌then◌else◌, nat_le, Option, Some, None, Decides, refl, sym, ap, ◌∙◌, subst}
use Rattle.hv_tree.specs.declared.place.Place.{Place}
use Rattle.hv_tree.specs.declared.ast.Operator.{Operator}
use Rattle.hv_tree.specs.declared.ast.Operator.TheVariants as operator
use Rattle.hv_tree.specs.Tokens.{Level, Ors, Ands, Comparisons, Sums, Products}
use Rattle.hv_tree.specs.Core.{Core}
use Rattle.hv_decls.specs.Types.{ValueType, IntType, BoolType, ArrayType}
use Rattle.hv_type_rules.specs.Typing.{Known, Unknown, Nothing, Is, operand_type, given_type}
use Rattle.hv_type_rules.specs.TypeRules.{Misfits}
use Rattle.hv_value.specs.ValueTree.{ValueTree, Number, Truth, Elements}
use Rattle.hv_value.specs.Operators.{Given, Gives, Overflow, DivZero, BadLength, TooLong, in_range, of_numbers, of_number, of_truth, divide, remainder, filled, copies, binary, unary, decides}
use Rattle.hv_value.specs.Operators as op
use Rattle.hv_value.specs.Sizes.{fill_cost}
use Rattle.hv_sem_copying.specs.declared.end.TrapKind.TheVariants as trap_kind
use Rattle.hv_sem_copying.specs.Run.{Run, ◌>>=◌, pure, pay}
use Rattle.hv_sem_copying.specs.Copying.{Locals}
use Rattle.hv_sem_copying.specs.Operations.{number, given, applied, filled_with, natural}
use Rattle.hv_type_synth.specs.Tests.{same_type}
use Rattle.hv_type_judge.proofs.Deciding.{type_decides}
use Rattle.hv_law_formed.specs.Formed.{level_of}
use Rattle.hv_law_safe.proofs.Ends.{Does, next, gives, traps, then_pay, then_pure}
use Rattle.hv_law_formed.proofs.Fits.{Fits, f_number, f_truth, f_elements, copies_fit, is_number, is_truth}

-- ---- what positions ask for

-- a value of what is known of a type; of an expression without a type there is none
abbrev pub ValueOf : Core → Known → ValueTree → Type 0
ValueOf tree Unknown v = ⊥
ValueOf tree Nothing v = Unit {0}
ValueOf tree (Is t) v = Fits tree t v

pub stable : (t u : ValueType) → (t ≢ u → ⊥) → t ≡ u
stable t u n = by (same_type t u) (type_decides t u)
  where
    by : (b : Bool) → Decides b (t ≡ u) → t ≡ u
    by true d = d.0 refl
    by false d = absurd (n (λ e. let f : false ≡ true = d.1 e in cc))

pub asked : {tree : Core} (a : ValueType) (k : Known) (v : ValueTree) → (Misfits (Some a) k → ⊥) → ValueOf tree k v → Fits tree a v
asked a Unknown v m h = absurd h
asked a Nothing v m h = absurd (m tt)
asked {tree = tree} a (Is t) v m h = subst (λ u. Fits tree u v) (stable t a m) h

-- ---- numbers

pub then_number : {X : Type 0} {tree : Core} {n : ℕ} {P : Locals → Type 0} {R : X → Locals → Type 0} (v : ValueTree) (f : ℤ → Run (Unit {0}) Locals X) → Fits tree IntType v → ((z : ℤ) → Does n P R (f z)) → Does n P R (number v >>= f)
then_number {n = n} {P = P} {R = R} v f h k = let z = is_number h in subst (λ w. Does n P R (number w >>= f)) (sym z.1) (then_pure z.0 f (k z.0))

-- ---- operators

abbrev pub Computes : Core → ValueType → Given → Type 0
Computes tree t (Gives v) = Fits tree t v
Computes tree t Overflow = Unit {0}
Computes tree t DivZero = Unit {0}
Computes tree t BadLength = Unit {0}
Computes tree t TooLong = Unit {0}

abbrev pub CanCompute : Core → ValueType → Option Given → Type 0
CanCompute tree t None = ⊥
CanCompute tree t (Some g) = Computes tree t g

-- an operand is of the type that the operator asks for
abbrev pub Takes : Core → Option ValueType → ValueTree → Type 0
Takes tree None v = Unit {0}
Takes tree (Some t) v = Fits tree t v

pub gives_given : {tree : Core} {n : ℕ} {M : Locals → Type 0} {t : ValueType} (at : Place) (g : Given) → Computes tree t g → Does n M (λ v e. Fits tree t v × M e) (given at g)
gives_given at (Gives v) h = gives v h
gives_given at Overflow h = traps trap_kind.Overflow at
gives_given at DivZero h = traps trap_kind.DivZero at
gives_given at BadLength h = traps trap_kind.BadLength at
gives_given at TooLong h = traps trap_kind.TooLong at

pub applies : {tree : Core} {n : ℕ} {M : Locals → Type 0} {t : ValueType} (at : Place) (g : Option Given) → CanCompute tree t g → Does n M (λ v e. Fits tree t v × M e) (applied at g)
applies at None h = absurd h
applies at (Some g) h = then_pure g (given at) (gives_given at g h)

module _ (tree : Core) where
  in_numbers : (z : ℤ) → Computes tree IntType (op.number z)
  in_numbers z = by (in_range z)
    where
      by : (b : Bool) → Computes tree IntType (if b then Gives (Number z) else Overflow)
      by true = f_number
      by false = tt

  divides : (x y : ℤ) → Computes tree IntType (divide x y)
  divides x (pos zero) = tt
  divides x (pos (suc n)) = in_numbers (int_div x (pos (suc n)))
  divides x (negsuc n) = in_numbers (int_div x (negsuc n))

  remains : (x y : ℤ) → Computes tree IntType (remainder x y)
  remains x (pos zero) = tt
  remains x (pos (suc n)) = in_numbers (int_rem x (pos (suc n)))
  remains x (negsuc n) = in_numbers (int_rem x (negsuc n))

  numbers : (t : ValueType) (f : ℤ → ℤ → Given) (v w : ValueTree) → ((x y : ℤ) → Computes tree t (f x y)) → Fits tree IntType v → Fits tree IntType w → CanCompute tree t (of_numbers f v w)
  numbers t f v w c h k =
      let x = is_number h in
      let y = is_number k in
      subst (λ v. CanCompute tree t (of_numbers f v w)) (sym x.1) (subst (λ w. CanCompute tree t (of_numbers f (Number x.0) w)) (sym y.1) (c x.0 y.0))

  truths : (o : Operator) (v w : ValueTree) → ((a b : Bool) → CanCompute tree BoolType (binary o (Truth a) (Truth b))) → Fits tree BoolType v → Fits tree BoolType w → CanCompute tree BoolType (binary o v w)
  truths o v w c h k =
      let a = is_truth h in
      let b = is_truth k in
      subst (λ v. CanCompute tree BoolType (binary o v w)) (sym a.1) (subst (λ w. CanCompute tree BoolType (binary o (Truth a.0) w)) (sym b.1) (c a.0 b.0))

  pub between : (o : Operator) (level : Level) (v w : ValueTree) → level_of o ≡ Some level → Takes tree (operand_type o) v → Takes tree (operand_type o) w → CanCompute tree (given_type o) (binary o v w)
  between operator.Add level v w e h k = numbers IntType op.add v w (λ x y. in_numbers (x +ℤ y)) h k
  between operator.Sub level v w e h k = numbers IntType op.subtract v w (λ x y. in_numbers (x -ℤ y)) h k
  between operator.Mul level v w e h k = numbers IntType op.multiply v w (λ x y. in_numbers (x *ℤ y)) h k
  between operator.Div level v w e h k = numbers IntType divide v w divides h k
  between operator.Rem level v w e h k = numbers IntType remainder v w remains h k
  between operator.Eq level v w e h k = f_truth
  between operator.Ne level v w e h k = f_truth
  between operator.Lt level v w e h k = numbers BoolType op.less v w (λ x y. f_truth) h k
  between operator.Le level v w e h k = numbers BoolType op.at_most v w (λ x y. f_truth) h k
  between operator.Gt level v w e h k = numbers BoolType op.greater v w (λ x y. f_truth) h k
  between operator.Ge level v w e h k = numbers BoolType op.at_least v w (λ x y. f_truth) h k
  between operator.And level v w e h k = truths operator.And v w (λ a b. f_truth) h k
  between operator.Or level v w e h k = truths operator.Or v w (λ a b. f_truth) h k
  between operator.Neg level v w e h k = cc
  between operator.Not level v w e h k = cc

  -- where an operand decides, it is the result
  pub decided : (o : Operator) (v : ValueTree) → Takes tree (operand_type o) v → decides o v ≡ true → Fits tree (given_type o) v
  decided operator.And v h e = h
  decided operator.Or v h e = h
  decided operator.Add v h e = cc
  decided operator.Sub v h e = cc
  decided operator.Mul v h e = cc
  decided operator.Div v h e = cc
  decided operator.Rem v h e = cc
  decided operator.Eq v h e = cc
  decided operator.Ne v h e = cc
  decided operator.Lt v h e = cc
  decided operator.Le v h e = cc
  decided operator.Gt v h e = cc
  decided operator.Ge v h e = cc
  decided operator.Neg v h e = cc
  decided operator.Not v h e = cc

  negates : (v : ValueTree) → Fits tree IntType v → CanCompute tree IntType (of_number op.negate v)
  negates v h = let x = is_number h in subst (λ v. CanCompute tree IntType (of_number op.negate v)) (sym x.1) (in_numbers (neg_ℤ x.0))

  inverts : (v : ValueTree) → Fits tree BoolType v → CanCompute tree BoolType (of_truth op.opposite v)
  inverts v h = let a = is_truth h in subst (λ v. CanCompute tree BoolType (of_truth op.opposite v)) (sym a.1) f_truth

  pub negated : (v : ValueTree) → Takes tree (operand_type operator.Neg) v → CanCompute tree (given_type operator.Neg) (unary operator.Neg v)
  negated v h = negates v h

  pub inverted : (v : ValueTree) → Takes tree (operand_type operator.Not) v → CanCompute tree (given_type operator.Not) (unary operator.Not v)
  inverted v h = inverts v h

-- ---- levels

-- what the operators of a level give
abbrev pub level_gives : Level → ValueType
level_gives Ors = BoolType
level_gives Ands = BoolType
level_gives Comparisons = BoolType
level_gives Sums = IntType
level_gives Products = IntType

is_given : (a level : Level) (t : ValueType) → Some a ≡ Some level → level_gives a ≡ t → t ≡ level_gives level
is_given a level t e f = let same : a ≡ level = cc in sym f ∙ ap level_gives same

pub given_by_level : (o : Operator) (level : Level) → level_of o ≡ Some level → given_type o ≡ level_gives level
given_by_level operator.Or level e = is_given Ors level BoolType e refl
given_by_level operator.And level e = is_given Ands level BoolType e refl
given_by_level operator.Eq level e = is_given Comparisons level BoolType e refl
given_by_level operator.Ne level e = is_given Comparisons level BoolType e refl
given_by_level operator.Lt level e = is_given Comparisons level BoolType e refl
given_by_level operator.Le level e = is_given Comparisons level BoolType e refl
given_by_level operator.Gt level e = is_given Comparisons level BoolType e refl
given_by_level operator.Ge level e = is_given Comparisons level BoolType e refl
given_by_level operator.Add level e = is_given Sums level IntType e refl
given_by_level operator.Sub level e = is_given Sums level IntType e refl
given_by_level operator.Mul level e = is_given Products level IntType e refl
given_by_level operator.Div level e = is_given Products level IntType e refl
given_by_level operator.Rem level e = is_given Products level IntType e refl
given_by_level operator.Neg level e = cc
given_by_level operator.Not level e = cc

is_taken : (a level : Level) (t : ValueType) → Some a ≡ Some level → level_gives a ≡ t → Some t ≡ Some (level_gives level)
is_taken a level t e f = let same : a ≡ level = cc in ap Some (sym f ∙ ap level_gives same)

stands_alone : (level : Level) (t : Option ValueType) → Some Comparisons ≡ Some level → (level ≡ Comparisons → ⊥) → t ≡ Some (level_gives level)
stands_alone level t e n = let same : level ≡ Comparisons = cc in absurd (n same)

-- the next operator takes what the one before it gives
pub taken_by_level : (o : Operator) (level : Level) → level_of o ≡ Some level → (level ≡ Comparisons → ⊥) → operand_type o ≡ Some (level_gives level)
taken_by_level operator.Or level e n = is_taken Ors level BoolType e refl
taken_by_level operator.And level e n = is_taken Ands level BoolType e refl
taken_by_level operator.Eq level e n = stands_alone level None e n
taken_by_level operator.Ne level e n = stands_alone level None e n
taken_by_level operator.Lt level e n = stands_alone level (Some IntType) e n
taken_by_level operator.Le level e n = stands_alone level (Some IntType) e n
taken_by_level operator.Gt level e n = stands_alone level (Some IntType) e n
taken_by_level operator.Ge level e n = stands_alone level (Some IntType) e n
taken_by_level operator.Add level e n = is_taken Sums level IntType e refl
taken_by_level operator.Sub level e n = is_taken Sums level IntType e refl
taken_by_level operator.Mul level e n = is_taken Products level IntType e refl
taken_by_level operator.Div level e n = is_taken Products level IntType e refl
taken_by_level operator.Rem level e n = is_taken Products level IntType e refl
taken_by_level operator.Neg level e n = cc
taken_by_level operator.Not level e n = cc

-- ---- `filled`

fills : {tree : Core} {n : ℕ} {M : Locals → Type 0} {t : ValueType} (at : Place) (v : ValueTree) (z : ℤ) (g : Given) → Computes tree t g → Does n M (λ w e. Fits tree t w × M e) (given at g >>= (λ array. pay (fill_cost (natural z) v) at >>= (λ paid. pure array)))
fills at v z g h = next (gives_given at g h) (λ array f. then_pay (fill_cost (natural z) v) at _ (gives array f))

pub fills_with : {tree : Core} {n : ℕ} {M : Locals → Type 0} {t : ValueType} (at : Place) (v : ValueTree) (z : ℤ) → Fits tree t v → Does n M (λ w e. Fits tree (ArrayType t) w × M e) (filled_with at v z)
fills_with {tree = tree} {n = n} {M = M} {t = t} at v (negsuc k) h = fills at v (negsuc k) BadLength tt
fills_with {tree = tree} {n = n} {M = M} {t = t} at v (pos k) h = by (nat_le k 1048576)
  where
    by : (b : Bool) → Does n M (λ w e. Fits tree (ArrayType t) w × M e) (given at (if b then Gives (Elements (copies k v)) else TooLong) >>= (λ array. pay (fill_cost k v) at >>= (λ paid. pure array)))
    by true = fills at v (pos k) (Gives (Elements (copies k v))) (f_elements (copies_fit k h))
    by false = fills at v (pos k) TooLong tt
