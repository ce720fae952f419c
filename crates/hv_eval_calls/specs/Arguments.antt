-- Arguments so far, as the meaning has them.
use Rattle.std.specs.Prelude.{ℕ, suc, List, [], ◌∷◌, ◌++◌, map}
use Rattle.hv_sem_copying.specs.Run.{◌>>=◌, pure}
use Rattle.hv_sem_copying.specs.Ops as ops
use Rattle.hv_sem_flat.specs.Accesses.{Plain, Access, access, opened}
use Rattle.hv_sem_flat.specs.Parts as parts
use Rattle.hv_partial.specs.HeldTree.{held_tree}
use Rattle.hv_eval_state.specs.Opened.{mode_of, last_first}
use Rattle.hv_eval_state.specs.Spots.{spot_of}
use Rattle.hv_eval_calls.specs.Passes.{passed_by}
use Rattle.hv_eval_calls.specs.declared.given.Argument.{Argument}
use Rattle.hv_eval_calls.specs.declared.given.Argument.TheVariants as argument
use Rattle.hv_eval_calls.specs.declared.given.Given.{Given}

abbrev pub argument_by : Argument → parts.Argument
argument_by (argument.Owns mode held) = parts.Owns (mode_of mode) (held_tree held)
argument_by (argument.Lends mode place) = parts.Lends (mode_of mode) (spot_of place)

-- how many references are in use, what is passed, and the accesses, the last opened first
abbrev pub Sofar : Type 0
Sofar = ℕ × List ops.Passed × List Access

abbrev pub sofar_of : Given → Sofar
sofar_of g = (g.used, map passed_by g.passed, last_first g.opens.items)

-- all arguments: what is passed, and the accesses
abbrev pub given_of : Given → parts.Given
given_of g = (map passed_by g.passed, last_first g.opens.items)

-- an argument more, where m references are in use
abbrev pub taken_one : parts.Argument → ℕ → List ops.Passed → List Access → Plain Sofar
taken_one (parts.Owns mode t) m ps opens = pure (m, ps ++ ops.Value mode t ∷ [], opens)
taken_one (parts.Lends mode p) m ps opens = opened (access mode m p) >>= (λ done. pure (suc m, ps ++ ops.Lent m ∷ [], access mode m p ∷ opens))
