-- Steps, places, calls and blocks.
use Rattle.std.proofs.Common.{◌≡◌, ℕ, List, [], ◌∷◌, ◌++◌, inl, inr, refl, sym, ◌∙◌, ap, subst, append_assoc}
use Rattle.std.specs.Prelude.{codes}
use Rattle.hv_tree.specs.declared.place.Place.{Place}
use Rattle.hv_tree.specs.declared.types.Name.{Name}
use Rattle.hv_tree.specs.declared.ast.Expr.{Expr}
use Rattle.hv_tree.specs.declared.ast.Step.{Step}
use Rattle.hv_tree.specs.declared.ast.Step.TheVariants as variant
use Rattle.hv_tree.specs.declared.ast.Arg.{Arg}
use Rattle.hv_tree.specs.declared.ast.Call.{Call}
use Rattle.hv_tree.specs.declared.ast.Block.{Block, roll-Block}
use Rattle.hv_tree.specs.declared.ast.Stmt.{Stmt}
use Rattle.hv_tree.specs.Tokens.{Tokens, mark, word, Ors}
use Rattle.hv_tree.specs.Grammar.{call_of, path_of, IsLevel, AreSteps, AreArgs, IsBlock, AreStmts, none_step, field_step, index_step, is_call, is_block}
use Rattle.hv_tree.specs.Refusal.{is_mark}
use Rattle.hv_syn_grammar.specs.Expressions as mirror
use Rattle.hv_syn_grammar.specs.Expressions.{Inner, begins_step}
use Rattle.hv_syn_grammar.specs.Statements.{not_closing}
use Rattle.hv_syn_exact.proofs.Exact.{Exact, Begins, Then, Either, Nothing, Many, then_exact, done_exact, choose_exact, many_exact, exact_by, nowhere, never}
use Rattle.hv_syn_exact.proofs.Lexemes.{After, a_mark, a_word, next_exact}
use Rattle.hv_syn_exact.proofs.Inner.{on_expr, IsPlace, IsPlacedCall, IsPlacedBlock, InnerExact}
use Rattle.hv_syn_exact.proofs.Shorts.{off_at, on_at, zero_at}
use Rattle.hv_syn_exact.proofs.Between.{Mapped, mapped_exact, mapped_parts, mapped_by, Bracketed, brackets_exact, bracket_parts, bracketed_by}
use Rattle.hv_syn_exact.proofs.Beginnings.{some_expr, no_args, no_stmts}
use Rattle.hv_syn_exact.proofs.ArgRules.{on_args, arguments_exact}

-- ---- steps

abbrev FieldStep : Step → Tokens → Type 0
FieldStep = After (mark (codes ".")) (λ dot. After word (λ name. Nothing (variant.Field name)))

abbrev index_of : Place → Expr → Place → Step
index_of left at right = variant.Index left at

abbrev IndexStep : Step → Tokens → Type 0
IndexStep = Bracketed (codes "[") (codes "]") (IsLevel Ors) index_of

abbrev IsStep : Step → Tokens → Type 0
IsStep = Either FieldStep IndexStep

to_step : (x : Step) (ss : List Step) (ts a b : Tokens) → IsStep x a → AreSteps ss b → ts ≡ a ++ b → AreSteps (x ∷ ss) ts
to_step x ss ts a b (inl f) h is =
    let w = f.2 in
    let flat : a ≡ mark (codes ".") f.0 ∷ (word w.0 ∷ []) = f.3 ∙ ap (λ y. mark (codes ".") f.0 ∷ y) (w.3 ∙ ap (λ y. word w.0 ∷ y) w.2.1) in
    field_step f.0 w.0 ss b h (ap (λ x. x ∷ ss) w.2.0) (is ∙ ap (λ a. a ++ b) flat)
to_step x ss ts a b (inr f) h is =
    let p = bracket_parts (codes "[") (codes "]") (IsLevel Ors) index_of x a f in
    index_step p.left p.right p.inside ss p.front b p.reads h (ap (λ x. x ∷ ss) p.value)
    (is ∙ ap (λ a. a ++ b) p.is ∙ ap (λ l. mark (codes "[") p.left ∷ l) (append_assoc p.front (mark (codes "]") p.right ∷ []) b))

to_steps : (ss : List Step) (ts : Tokens) → Many IsStep ss ts → AreSteps ss ts
to_steps [] ts m = none_step refl m
to_steps (x ∷ ss) ts m = to_step x ss ts m.0 m.1 m.2 (to_steps ss m.1 m.3) m.4

from_steps : (ss : List Step) (ts : Tokens) → AreSteps ss ts → Many IsStep ss ts
from_steps ss ts (none_step e is) = subst (λ l. Many IsStep l ts) (sym e) is
from_steps ss ts (field_step dot name rest a h e is) =
    subst (λ l. Many IsStep l ts) (sym e) (mark (codes ".") dot ∷ word name ∷ [], a, inl (dot, word name ∷ [], (name, [], (refl, refl), refl), refl), from_steps rest a h, is)
from_steps ss ts (index_step left right at rest a b x h e is) =
    subst (λ l. Many IsStep l ts) (sym e) (
      mark (codes "[") left ∷ (a ++ mark (codes "]") right ∷ []),
      b,
      inr (bracketed_by (codes "[") (codes "]") (IsLevel Ors) index_of left right at a (variant.Index left at) (mark (codes "[") left ∷ (a ++ mark (codes "]") right ∷ [])) x refl refl),
      from_steps rest b h,
      is ∙ ap (λ l. mark (codes "[") left ∷ l) (sym (append_assoc a (mark (codes "]") right ∷ []) b)),
    )

step_begins : (x : Step) (ts : Tokens) → IsStep x ts → Begins begins_step ts
step_begins x ts (inl f) = on_at begins_step _ ts f.1 f.3 refl
step_begins x ts (inr f) = on_at begins_step _ ts f.1 f.3 refl

module _ (d : ℕ) (i : Inner) (inner : InnerExact d i) where
  step_exact : Exact d d nowhere IsStep (mirror.one_step d i)
  unfolding mirror.one_step
  step_exact =
      choose_exact d d (is_mark (codes ".")) FieldStep IndexStep _ _ nowhere nowhere nowhere
      (next_exact _ _ _ (a_mark (codes ".")) _ _ d d d nowhere (λ at. refl)
      (λ dot. next_exact _ _ _ a_word _ _ d d d nowhere (λ name. refl) (λ name. done_exact d nowhere (variant.Field name))))
      (brackets_exact (codes "[") (codes "]") (IsLevel Ors) index_of d on_expr i.expr some_expr inner.expr (λ at. refl) (λ at. refl) (λ n at. refl))
      (λ x ts f. on_at (is_mark (codes ".")) _ ts f.1 f.3 refl)
      (λ x ts rest f s. off_at (is_mark (codes ".")) _ ts f.1 rest f.3 refl)
      (λ rest s. s) (λ rest s. s)

  pub steps_exact : Exact d d begins_step AreSteps (mirror.steps d i)
  unfolding mirror.steps
  steps_exact =
      exact_by d d begins_step (Many IsStep) AreSteps (mirror.steps d i)
      (many_exact d begins_step nowhere IsStep _ step_exact step_begins begins_step (λ rest s. s) (λ rest s. never rest) (λ k e. refl))
      to_steps from_steps

  pub place_exact : Exact d d begins_step IsPlace (mirror.place d i)
  unfolding mirror.place
  place_exact = next_exact _ _ _ a_word _ _ d d d begins_step (λ name. refl) (λ root. mapped_exact d d begins_step AreSteps (mirror.steps d i) (path_of root) steps_exact)

-- ---- calls

abbrev pub call_by : Name → List Step → Place → List Arg → Place → Call
call_by root ss paren xs right = call_of (path_of root ss) paren xs

-- the arguments, after the place
abbrev pub CallRest : Name → List Step → Call → Tokens → Type 0
CallRest root ss = Bracketed (codes "(") (codes ")") AreArgs (call_by root ss)

abbrev at_root : Name → Call → Place × Call
at_root root c = (root.place, c)

abbrev WholeCall : Place × Call → Tokens → Type 0
WholeCall = After word (λ root. Then AreSteps (λ ss. Mapped (CallRest root ss) (at_root root)))

to_call : (c : Place × Call) (ts : Tokens) → WholeCall c ts → IsPlacedCall c ts
to_call c ts t =
    let root = t.0 in let s = t.2 in
    let m = mapped_parts (CallRest root s.0) (at_root root) c s.2 s.4 in
    let p = bracket_parts (codes "(") (codes ")") AreArgs (call_by root s.0) m.0 s.2 m.1 in
    is_call root s.0 p.left p.right p.inside s.1 p.front s.3 p.reads (ap (λ c. c.0) m.2) (ap (λ c. c.1) m.2 ∙ p.value) (t.3 ∙ ap (λ y. word root ∷ y) (s.5 ∙ ap (λ y. s.1 ++ y) p.is))

from_call : (c : Place × Call) (ts : Tokens) → IsPlacedCall c ts → WholeCall c ts
from_call c ts (is_call root ss paren right xs a b h k e1 e2 is) =
    let rest = mark (codes "(") paren ∷ (b ++ mark (codes ")") right ∷ []) in
    let call = call_of (path_of root ss) paren xs in
    let same : c ≡ (root.place, call) = ap (λ at. (at, c.1)) e1 ∙ ap (λ v. (root.place, v)) e2 in
    (root, a ++ rest, (ss, a, rest, h, mapped_by (CallRest root ss) (at_root root) call c rest (bracketed_by (codes "(") (codes ")") AreArgs (call_by root ss) paren right xs b call rest k refl refl) same, refl), is)

module _ (d : ℕ) (i : Inner) (inner : InnerExact d i) where
  pub call_rest_exact : (root : Name) (ss : List Step) → Exact d d nowhere (CallRest root ss) (mirror.call_rest d i root ss)
  unfolding mirror.call_rest
  call_rest_exact root ss =
      brackets_exact (codes "(") (codes ")") AreArgs (call_by root ss) d on_args (mirror.arguments i) no_args
      (λ n is. arguments_exact n i (inner.expr n is) (inner.place n is)) (λ at. refl) (λ at. refl) (λ n at. refl)

  pub call_exact : Exact d d nowhere IsPlacedCall (mirror.call d i)
  unfolding mirror.call
  call_exact =
      exact_by d d nowhere WholeCall IsPlacedCall _
      (next_exact _ _ _ a_word _ _ d d d nowhere (λ name. refl)
      (λ root. then_exact d d d begins_step nowhere AreSteps (λ ss. Mapped (CallRest root ss) (at_root root)) (mirror.steps d i) _ (steps_exact d i inner)
      (λ ss. mapped_exact d d nowhere (CallRest root ss) (mirror.call_rest d i root ss) (at_root root) (call_rest_exact root ss))
      (λ ss c y rest m s. let p = mapped_parts (CallRest root ss) (at_root root) c y m in off_at begins_step _ y p.1.1 rest p.1.3 refl)))
      to_call from_call

-- ---- blocks

abbrev block_by : Place → List Stmt → Place → Place × Block
block_by left ss right = (left, roll-Block (record { stmts = ss; end = right }))

abbrev PlacedBlock : Place × Block → Tokens → Type 0
PlacedBlock = Bracketed (codes "{") (codes "}") AreStmts block_by

abbrev first_place : Tokens → Place
first_place [] = zero_at
first_place (k ∷ ts) = k.place

to_placed_block : (b : Place × Block) (ts : Tokens) → PlacedBlock b ts → IsPlacedBlock b ts
to_placed_block b ts t =
    let p = bracket_parts (codes "{") (codes "}") AreStmts block_by b ts t in
    (is_block p.left p.right p.inside p.front p.reads (ap (λ b. b.1) p.value) p.is, (p.front ++ mark (codes "}") p.right ∷ [], p.is ∙ ap (λ left. mark (codes "{") left ∷ (p.front ++ mark (codes "}") p.right ∷ [])) (sym (ap (λ b. b.0) p.value))))

from_block : (at : Place) (b : Block) (ts more : Tokens) → IsBlock b ts → ts ≡ mark (codes "{") at ∷ more → PlacedBlock (at, b) ts
from_block at b ts more (is_block left right ss a h e is) e' =
    let same : at ≡ left = ap first_place (sym e' ∙ is) in
    bracketed_by (codes "{") (codes "}") AreStmts block_by left right ss a (at, b) ts h (ap (λ at. (at, b)) same ∙ ap (λ b. (left, b)) e) is

from_placed_block : (b : Place × Block) (ts : Tokens) → IsPlacedBlock b ts → PlacedBlock b ts
from_placed_block b ts h = from_block b.0 b.1 ts h.1.0 h.0 h.1.1

to_block : (b : Block) (ts : Tokens) → Mapped IsPlacedBlock (λ b. b.1) b ts → IsBlock b ts
to_block b ts t = let m = mapped_parts IsPlacedBlock (λ b. b.1) b ts t in subst (λ b. IsBlock b ts) (sym m.2) m.1.0

from_whole_block : (b : Block) (ts : Tokens) → IsBlock b ts → Mapped IsPlacedBlock (λ b. b.1) b ts
from_whole_block b ts (is_block left right ss a h e is) =
    mapped_by IsPlacedBlock (λ b. b.1) (left, b) b ts (is_block left right ss a h e is, (a ++ mark (codes "}") right ∷ [], is)) refl

module _ (d : ℕ) (i : Inner) (inner : InnerExact d i) where
  pub placed_block_exact : Exact d d nowhere IsPlacedBlock (mirror.placed_block d i)
  unfolding mirror.placed_block
  placed_block_exact =
      exact_by d d nowhere PlacedBlock IsPlacedBlock _
      (brackets_exact (codes "{") (codes "}") AreStmts block_by d not_closing i.stmts no_stmts inner.stmts (λ at. refl) (λ at. refl) (λ n at. refl))
      to_placed_block from_placed_block

  pub block_exact : Exact d d nowhere IsBlock (mirror.block d i)
  unfolding mirror.block
  block_exact = exact_by d d nowhere (Mapped IsPlacedBlock (λ b. b.1)) IsBlock _ (mapped_exact d d nowhere IsPlacedBlock (mirror.placed_block d i) (λ b. b.1) placed_block_exact) to_block from_whole_block
