-- Branches as code goes through them.
use Rattle.std.proofs.Common.{◌≡◌, ◌<◌, ◌+◌, ℕ, Bool, true, false, if◌then◌else◌, List, [], ◌∷◌, length, drop, get_or, Option, Some, None, refl, sym, ap, ◌∙◌}
use Rattle.hv_tree.specs.declared.ast.Block.{Block}
use Rattle.hv_tree.specs.declared.ast.Branch.{Branch, out-Branch}
use Rattle.hv_tree.specs.Core.{CoreBranches, core_branches}
use Rattle.hv_tree.proofs.CoreLemmas as lemmas
use Rattle.hv_lemmas.proofs.Lists.{first_left}
use Rattle.hv_sem_copying.specs.Run.{Res, Is, Now, Flow, ◌>>=◌, pure}
use Rattle.hv_sem_copying.specs.Copying.{Locals}
use Rattle.hv_sem_flat.specs.Accesses.{Plain}
use Rattle.hv_sem_flat.specs.Flat.{choices}
use Rattle.hv_eval_state.specs.declared.task.Task.{Task}
use Rattle.hv_eval_state.specs.declared.task.Halt.{Halt}
use Rattle.hv_eval_state.specs.Gives.{now_of, from, halted}
use Rattle.hv_eval_env.specs.declared.level.Level.{Level}
use Rattle.hv_eval_env.specs.Level.{tree_in, locals_in, deeper_in, value_in, block_in}
use Rattle.hv_eval_blocks.specs.Runs.{tested}
use Rattle.hv_eval_blocks.specs.Statements.{choices_in}
use Rattle.hv_eval_blocks.proofs.Sequence.{step_on, step_off}
use Rattle.hv_eval_blocks.proofs.TurnLemmas.{chosen_tested}

module _ (l : Level) where
  pub otherwise_none : (o : Option Block) → o ≡ None → choices_in l [] o ≡ pure None
  unfolding choices_in
  otherwise_none o h = ap (λ b. choices (tree_in l) (locals_in l) (deeper_in l) (core_branches [] b)) h

  pub otherwise_some : (o : Option Block) (b : Block) → o ≡ Some b → choices_in l [] o ≡ block_in l b
  unfolding choices_in
  otherwise_some o b h = ap (λ b. choices (tree_in l) (locals_in l) (deeper_in l) (core_branches [] b)) h

  chosen_first : (b : Branch) (rest : List Branch) (o : Option Block) → choices_in l (b ∷ rest) o ≡ tested (value_in l (out-Branch b).test) >>= (λ h. if h then block_in l (out-Branch b).body else choices_in l rest o)
  unfolding choices_in
  chosen_first b rest o = ap (choices (tree_in l) (locals_in l) (deeper_in l)) (lemmas.opened_branch b (core_branches rest o)) ∙ chosen_tested (value_in l (out-Branch b).test) (block_in l (out-Branch b).body) (choices_in l rest o)

  module _ (branches : List Branch) (o : Option Block) (i : ℕ) (b : Branch) (used : ℕ) (t u : Task) (within : i < length branches) (is : b ≡ get_or branches i b) where
    chosen_next : choices_in l (drop i branches) o ≡ tested (value_in l (out-Branch b).test) >>= (λ h. if h then block_in l (out-Branch b).body else choices_in l (drop (i + 1) branches) o)
    chosen_next = ap (λ bs. choices_in l bs o) (first_left branches i b within is) ∙ chosen_first b (drop (i + 1) branches) o

    pub branch_on : from (tested (value_in l (out-Branch b).test)) used t ≡ Is (now_of u, false) → from (choices_in l (drop i branches) o) used t ≡ from (choices_in l (drop (i + 1) branches) o) used u
    branch_on e = ap (λ p. from p used t) chosen_next ∙ step_on (tested (value_in l (out-Branch b).test)) (λ h. if h then block_in l (out-Branch b).body else choices_in l (drop (i + 1) branches) o) used t u false e

    pub branch_taken : from (tested (value_in l (out-Branch b).test)) used t ≡ Is (now_of u, true) → from (choices_in l (drop i branches) o) used t ≡ from (block_in l (out-Branch b).body) used u
    branch_taken e = ap (λ p. from p used t) chosen_next ∙ step_on (tested (value_in l (out-Branch b).test)) (λ h. if h then block_in l (out-Branch b).body else choices_in l (drop (i + 1) branches) o) used t u true e

    pub branch_halted : (h : Halt) → from (tested (value_in l (out-Branch b).test)) used t ≡ halted h u → from (choices_in l (drop i branches) o) used t ≡ halted h u
    branch_halted h e = ap (λ p. from p used t) chosen_next ∙ step_off (tested (value_in l (out-Branch b).test)) (λ h. if h then block_in l (out-Branch b).body else choices_in l (drop (i + 1) branches) o) used t u h e

pub ruleset by_otherwise = (otherwise_none, otherwise_some)

pub ruleset by_branch = (branch_on, branch_taken, branch_halted)
