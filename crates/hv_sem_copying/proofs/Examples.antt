-- Small programs and what their roots do, worked out by hand. A place is told where something is told of it.
use Rattle.std.proofs.Common.{◌≡◌, ℕ, pos, negsuc, false, [], ◌∷◌, Some, refl}
use Rattle.hv_tree.specs.declared.ast.Operator.TheVariants as operator
use Rattle.hv_tree.specs.Core.{Core, Print, VarWith, If, BranchOf, NoElse, CoreExpr, Truth, Path, Array, Filled, Prefix, NoSteps, ArrayTy}
use Rattle.hv_value.specs.ValueTree as tree
use Rattle.hv_sem_copying.specs.declared.end.TrapKind.TheVariants as trap_kind
use Rattle.hv_sem_copying.specs.Node.{Trapped, SpentAt, Id}
use Rattle.hv_sem_copying.specs.Run.{and_then, mine, become, pure, trap, pay, say, counted_from}
use Rattle.hv_sem_copying.specs.Meaning.{node_of}
use Rattle.hv_sem_copying.proofs.Programs.{at, o, block, main, program, ints, num, between, exprs, root, done, line, and_line, a, at_index}

abbrev number : ℕ → tree.ValueTree
number n = tree.Number (pos n)

-- the root's own name
abbrev here : Id
here = 0 ∷ []

-- ---- `fun main() { print(1 + 2) }`

abbrev sum : Core
sum = program (main (Print (at 13) (between (num 1) operator.Add 21 (num 2)) ∷ []) 26 ∷ [])

sum_printed : node_of sum 10 ≡ Some (root 1 done (line (number 3)))
unfolding node_of and_then mine become pure pay say counted_from
sum_printed = refl

-- nothing is paid where less is left
sum_spent : node_of sum 0 ≡ Some (root 0 (SpentAt (at 13) here) [])
unfolding node_of and_then mine become pure pay say counted_from
sum_spent = refl

-- ---- `print(9223372036854775807 + 1)`: the trap stands at the `+`

abbrev too_great : Core
too_great = program (main (Print (at 13) (between (num 9223372036854775807) operator.Add 39 (num 1)) ∷ []) 44 ∷ [])

too_great_traps : node_of too_great 10 ≡ Some (root 1 (Trapped trap_kind.Overflow (at 39) here) [])
unfolding node_of and_then mine become pure pay trap counted_from
too_great_traps = refl

-- ---- `print(5) print(1 / 0)`: what was printed stays

abbrev by_zero : Core
by_zero = program (main (Print o (num 5) ∷ (Print o (between (num 1) operator.Div 30 (num 0)) ∷ [])) 40 ∷ [])

by_zero_traps : node_of by_zero 10 ≡ Some (root 2 (Trapped trap_kind.DivZero (at 30) here) (line (number 5)))
unfolding node_of and_then mine become pure pay say trap counted_from
by_zero_traps = refl

-- ---- `print(-7 / 2) print(-7 % 2)`, and the least number by -1

abbrev minus : ℕ → CoreExpr
minus n = Prefix o operator.Neg (num n)

abbrev least : CoreExpr
least = between (minus 9223372036854775807) operator.Sub 0 (num 1)

abbrev towards_zero : Core
towards_zero =
    program (main (Print o (between (minus 7) operator.Div 0 (num 2)) ∷ (Print o (between (minus 7) operator.Rem 0 (num 2)) ∷ (Print o (between least operator.Rem 0 (minus 1)) ∷ (Print o (between least operator.Div 60 (minus 1)) ∷ [])))) 70 ∷ [])

towards_zero_printed : node_of towards_zero 10 ≡ Some (root 4 (Trapped trap_kind.Overflow (at 60) here) (and_line (and_line (line (tree.Number (negsuc 2))) (tree.Number (negsuc 0))) (number 0)))
unfolding node_of and_then mine become pure pay say trap counted_from
towards_zero_printed = refl

-- ---- `var a: [Int] = [7] print(a[1])`: the trap stands at the `[`

abbrev outside : Core
outside = program (main (VarWith o a ints (Array o (exprs (num 7 ∷ []))) ∷ (Print o (Path o a (at_index 39 (num 1) NoSteps)) ∷ [])) 45 ∷ [])

outside_traps : node_of outside 10 ≡ Some (root 2 (Trapped trap_kind.Index (at 39) here) [])
unfolding node_of and_then mine become pure pay trap counted_from
outside_traps = refl

-- ---- `var a: [[Int]] = [[7]] print(a[5][1 / 0])`: all indices are evaluated before one is tested

abbrev inner_first : Core
inner_first =
    program (main (VarWith o a (ArrayTy o ints) (Array o (exprs (Array o (exprs (num 7 ∷ [])) ∷ []))) ∷ (Print o (Path o a (at_index 39 (num 5) (at_index 42 (between (num 1) operator.Div 45 (num 0)) NoSteps))) ∷ [])) 50 ∷ [])

inner_first_traps : node_of inner_first 10 ≡ Some (root 2 (Trapped trap_kind.DivZero (at 45) here) [])
unfolding node_of and_then mine become pure pay trap counted_from
inner_first_traps = refl

-- ---- `var a: [Int] = filled(-1, 0)`, one too long, and `filled(2, 0)` with one step less than it takes

abbrev filling : CoreExpr → Core
filling n = program (main (VarWith o a ints (Filled (at 28) n (num 0)) ∷ []) 45 ∷ [])

filling_traps : node_of (filling (minus 1)) 10 ≡ Some (root 1 (Trapped trap_kind.BadLength (at 28) here) [])
unfolding node_of and_then mine become pure pay trap counted_from
filling_traps = refl

filling_too_long : node_of (filling (num 1048577)) 10 ≡ Some (root 1 (Trapped trap_kind.TooLong (at 28) here) [])
unfolding node_of and_then mine become pure pay trap counted_from
filling_too_long = refl

filling_done : node_of (filling (num 2)) 4 ≡ Some (root 4 done [])
unfolding node_of and_then mine become pure pay counted_from
filling_done = refl

filling_spent : node_of (filling (num 2)) 3 ≡ Some (root 1 (SpentAt (at 28) here) [])
unfolding node_of and_then mine become pure pay counted_from
filling_spent = refl

-- ---- `if false && 1 / 0 == 0 { print(1) }`: the second operand isn't evaluated

abbrev stops : Core
stops =
    program (main (If o (BranchOf (between (Truth o false) operator.And 0 (between (between (num 1) operator.Div 9 (num 0)) operator.Eq 0 (num 0))) (block (Print o (num 1) ∷ []) 30) NoElse) ∷ []) 40 ∷ [])

stops_early : node_of stops 10 ≡ Some (root 1 done [])
unfolding node_of and_then mine become pure pay counted_from
stops_early = refl
