-- For an order and the bytes of its file there is one answer at most.
use Rattle.std.proofs.Common.{◌≡◌, ℕ, Bool, false, List, Option, Some, None, sym, ◌∙◌, ap, subst}
use Rattle.hv_tree.specs.declared.ast.Tree.{Tree}
use Rattle.hv_tree.specs.Core.{core_tree}
use Rattle.hv_tree.specs.Printed.{Printed}
use Rattle.hv_words.specs.Taken.{Asked, check, show}
use Rattle.hv_check.proofs.Sources.{first_once, accepted_once, not_both}
use Rattle.hv_sem_copying.specs.Node.{Node, end_of}
use Rattle.hv_sem_copying.specs.Meaning.{node_of}
use Rattle.hv_law_safe.specs.Runs.{Runs}
use Rattle.hv_driver.specs.declared.status.Status.{Status}
use Rattle.hv_report.specs.Lines.{refusal_text, report_of}
use Rattle.hv_driver.specs.Answer.{Answers, refused, checked, shown, unready, ran, IsCheck, IsShow, run_of, status_of}

no_run_of_check : (asked : Asked) (p : ℕ × Bool) → IsCheck asked → run_of asked ≡ Some p → ⊥
no_run_of_check asked p q e = let h : None ≡ Some p = sym (ap run_of q.1) ∙ e in cc

no_run_of_show : (asked : Asked) (p : ℕ × Bool) → IsShow asked → run_of asked ≡ Some p → ⊥
no_run_of_show asked p q e = let h : None ≡ Some p = sym (ap run_of q.1) ∙ e in cc

no_check_and_show : (asked : Asked) → IsCheck asked → IsShow asked → ⊥
no_check_and_show asked p q = let h : check p.0 ≡ show q.0 = sym p.1 ∙ q.1 in cc

same_node : (tree other : Tree) (steps more : ℕ) (node n : Node) → other ≡ tree → more ≡ steps → node_of (core_tree tree) steps ≡ Some node → node_of (core_tree other) more ≡ Some n → n ≡ node
same_node tree other steps more node n e f a b = let h : Some n ≡ Some node = sym b ∙ ap (λ t. node_of (core_tree t) more) e ∙ ap (node_of (core_tree tree)) f ∙ a in cc

abbrev steps_in : Option (ℕ × Bool) → ℕ
steps_in None = 0
steps_in (Some p) = p.0

abbrev trace_in : Option (ℕ × Bool) → Bool
trace_in None = false
trace_in (Some p) = p.1

module _ (asked : Asked) (bytes : List ℕ) where
  abbrev Same : Status → List ℕ → Status → List ℕ → Type 0
  Same s t s' t' = (s' ≡ s) × (t' ≡ t)

  pub answers_once : (s s' : Status) (t t' : List ℕ) → Answers asked bytes s t → Answers asked bytes s' t' → Same s t s' t'
  answers_once s s' t t' (refused r f e w) (refused r' f' e' w') = (e' ∙ sym e, w' ∙ ap (refusal_text bytes) (first_once bytes r r' f f') ∙ sym w)
  answers_once s s' t t' (refused r f e w) (checked u a q e' w') = absurd (not_both bytes r u f a)
  answers_once s s' t t' (refused r f e w) (shown u a q e' w') = absurd (not_both bytes r u f a)
  answers_once s s' t t' (refused r f e w) (unready u n b a q m e' w') = absurd (not_both bytes r u f a)
  answers_once s s' t t' (refused r f e w) (ran u n b k a q m o e' w') = absurd (not_both bytes r u f a)
  answers_once s s' t t' (checked u a q e w) (refused r f e' w') = absurd (not_both bytes r u f a)
  answers_once s s' t t' (checked u a q e w) (checked u' a' q' e' w') = (e' ∙ sym e, w' ∙ sym w)
  answers_once s s' t t' (checked u a q e w) (shown u' a' q' e' w') = absurd (no_check_and_show asked q q')
  answers_once s s' t t' (checked u a q e w) (unready u' n b a' q' m e' w') = absurd (no_run_of_check asked (n, b) q q')
  answers_once s s' t t' (checked u a q e w) (ran u' n b k a' q' m o e' w') = absurd (no_run_of_check asked (n, b) q q')
  answers_once s s' t t' (shown u a q e w) (refused r f e' w') = absurd (not_both bytes r u f a)
  answers_once s s' t t' (shown u a q e w) (checked u' a' q' e' w') = absurd (no_check_and_show asked q' q)
  answers_once s s' t t' (shown u a q e w) (shown u' a' q' e' w') = (e' ∙ sym e, w' ∙ ap Printed (accepted_once bytes u u' a a') ∙ sym w)
  answers_once s s' t t' (shown u a q e w) (unready u' n b a' q' m e' w') = absurd (no_run_of_show asked (n, b) q q')
  answers_once s s' t t' (shown u a q e w) (ran u' n b k a' q' m o e' w') = absurd (no_run_of_show asked (n, b) q q')
  answers_once s s' t t' (unready u n b a q m e w) (refused r f e' w') = absurd (not_both bytes r u f a)
  answers_once s s' t t' (unready u n b a q m e w) (checked u' a' q' e' w') = absurd (no_run_of_check asked (n, b) q' q)
  answers_once s s' t t' (unready u n b a q m e w) (shown u' a' q' e' w') = absurd (no_run_of_show asked (n, b) q' q)
  answers_once s s' t t' (unready u n b a q m e w) (unready u' n' b' a' q' m' e' w') = (e' ∙ sym e, w' ∙ sym w)
  answers_once s s' t t' (unready u n b a q m e w) (ran u' n' b' k a' q' r o e' w') = absurd (m (subst (λ t. Runs (core_tree t)) (accepted_once bytes u u' a a') r))
  answers_once s s' t t' (ran u n b k a q r o e w) (refused r' f e' w') = absurd (not_both bytes r' u f a)
  answers_once s s' t t' (ran u n b k a q r o e w) (checked u' a' q' e' w') = absurd (no_run_of_check asked (n, b) q' q)
  answers_once s s' t t' (ran u n b k a q r o e w) (shown u' a' q' e' w') = absurd (no_run_of_show asked (n, b) q' q)
  answers_once s s' t t' (ran u n b k a q r o e w) (unready u' n' b' a' q' m e' w') = absurd (m (subst (λ t. Runs (core_tree t)) (sym (accepted_once bytes u u' a a')) r))
  answers_once s s' t t' (ran u n b k a q r o e w) (ran u' n' b' k' a' q' r' o' e' w') =
      let p : Some (n', b') ≡ Some (n, b) = sym q' ∙ q in
      let steps : n' ≡ n = ap steps_in p in
      let trace : b' ≡ b = ap trace_in p in
      let node = same_node u u' n n' k k' (accepted_once bytes u u' a a') steps o o' in
      (e' ∙ ap (λ k. status_of (end_of k)) node ∙ sym e, w' ∙ ap (λ k. report_of bytes k b') node ∙ ap (report_of bytes k) trace ∙ sym w)
