-- The program of an accepted source is safe.
use Rattle.std.proofs.Common.{ℕ, List, None}
use Rattle.hv_tree.specs.declared.ast.Tree.{Tree}
use Rattle.hv_tree.specs.Core.{core_tree}
use Rattle.hv_sem_copying.specs.Meaning.{IsSafe}
use Rattle.hv_law_checked.proofs.Begins.{tokens_apart}
use Rattle.hv_law_safe.specs.Runs.{Runs}
use Rattle.hv_law_formed.proofs.Spelled.{spelled_formed}
use Rattle.hv_law_safe.proofs.Theorem.{accepted_safe}
use Rattle.hv_check.specs.Checks.{IsAccepted}

pub accepted_is_safe : (bytes : List ℕ) (tree : Tree) → IsAccepted bytes tree → Runs (core_tree tree) → IsSafe (core_tree tree)
accepted_is_safe bytes tree a r =
    let read = a.read in
    let formed = spelled_formed tree read.tokens read.parsed.spells (record { apart = tokens_apart bytes read.tokens None read.lexes }) in
    accepted_safe (core_tree tree) formed a.obeys r
