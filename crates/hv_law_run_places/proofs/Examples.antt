-- Programs with their places, and what the premises of the laws say of them.
use Rattle.std.proofs.Common.{◌≡◌, ◌<◌, ℕ, pos, List, [], ◌∷◌, ◌++◌, drop, Some, None, refl, codes, arith}
use Rattle.std.specs.List.{All}
use Rattle.std.proofs.lemmas.List.Elements.{All-nil, All-cons}
use Rattle.std.proofs.lemmas.List.Kept.{AllPairs-cons}
use Rattle.hv_tree.specs.declared.place.Place.{Place}
use Rattle.hv_tree.specs.declared.token.Token.{Token}
use Rattle.hv_tree.specs.declared.types.Name.{Name}
use Rattle.hv_tree.specs.declared.ast.Operator.TheVariants as operator
use Rattle.hv_tree.specs.declared.ast.Block.{Block, roll-Block}
use Rattle.hv_tree.specs.declared.ast.Decl.{Decl}
use Rattle.hv_tree.specs.declared.ast.Decl.TheVariants as decl
use Rattle.hv_tree.specs.declared.ast.Tree.{Tree}
use Rattle.hv_tree.specs.Tokens.{Tokens, mark, keyword, word}
use Rattle.hv_tree.specs.Types.{no_params, no_return}
use Rattle.hv_tree.specs.Grammar.{is_block, none_stmts, IsDecl, fun_decl, no_decls, more_decls, Spells}
use Rattle.hv_tree.specs.Core.{Core, CoreDecl, StructOf, FunOf, CoreFun, IntTy, NamedTy, ArrayTy, Number, Path, Chain, NoLinks, LinkOf, NoSteps, FieldStep, IndexStep, CallOf, ValueArg, RefArg, NoArgs, BlockOf, CoreStmts, NoStmts, StmtOf, Print, CallsAlone, core_tree}
use Rattle.hv_sem_copying.specs.declared.end.TrapKind.TheVariants.{DivZero}
use Rattle.hv_sem_copying.specs.Node.{Trapped, SpentAt, Node, NodeOf, NoNodes, NodeAnd}
use Rattle.hv_sem_copying.specs.Run.{and_then, mine, become, pure, trap, pay, say, counted_from}
use Rattle.hv_sem_copying.specs.Meaning.{node_of}
use Rattle.hv_law_places.specs.Places.{in_decl, in_stmt, places_of, IsIn}
use Rattle.hv_law_run_places.specs.NodePlaces.{in_node}
use Rattle.hv_law_places.specs.TokenPlaces.{Before, Rise}
use Rattle.hv_law_places.specs.Ends.{EndApart}
use Rattle.hv_law_run_places.proofs.NodesTell.{nodes_tell}
use Rattle.hv_law_places.proofs.EndsFit.{bodies_apart}

abbrev at : ℕ → Place
at n = record { start = n }

abbrev name : List ℕ → ℕ → Name
name text n = record { text = text; place = at n }

abbrev main : CoreStmts → ℕ → CoreDecl
main stmts end = FunOf (record { name = name (codes "main") 4; params = []; result = None; body = BlockOf stmts (at end) })

-- ---- `fun main() { print(1 / 0) }`

abbrev divides : Core
divides = record { decls = main (StmtOf (Print (at 13) (Chain (at 19) (Number (at 19) (pos 1)) (LinkOf operator.Div (at 21) (Number (at 23) (pos 0)) NoLinks))) NoStmts) 26 ∷ [] }

divides_places : places_of divides ≡ at 4 ∷ at 13 ∷ at 19 ∷ at 19 ∷ at 21 ∷ at 23 ∷ at 26 ∷ []
divides_places = refl

abbrev divided : Node
divided = NodeOf (0 ∷ []) 1 (Trapped DivZero (at 21) (0 ∷ [])) [] NoNodes

it_traps : node_of divides 5 ≡ Some divided
unfolding node_of and_then mine become pure pay trap counted_from
it_traps = refl

at_the_sign : IsIn (at 21) divides
at_the_sign = nodes_tell divides 5 divided it_traps (at 21) (0, omega arith, refl)

-- a node, then its children: here one that was spent
of_a_child : in_node (NodeOf (0 ∷ []) 9 (Trapped DivZero (at 40) (0 ∷ [])) [] (NodeAnd (NodeOf (0 ∷ 0 ∷ []) 3 (SpentAt (at 7) (0 ∷ 0 ∷ [])) [] NoNodes) NoNodes)) ≡ at 40 ∷ at 7 ∷ []
of_a_child = refl

-- `struct Pair { var a: [Int] var b: T }`
of_a_struct :
    in_decl (StructOf (record { name = name (codes "Pair") 7; fields = record { name = name (codes "a") 18; ty = ArrayTy (at 21) (IntTy (at 22)) } ∷ record { name = name (codes "b") 31; ty = NamedTy (name (codes "T") 34) } ∷ [] })) ≡
    at 7 ∷ at 18 ∷ at 21 ∷ at 22 ∷ at 31 ∷ at 34 ∷ []
of_a_struct = refl

-- `f(x, &a.b[i])`: the callee's name, its `(`, and then the arguments
of_a_call :
    in_stmt (CallsAlone (at 0) (CallOf (name (codes "f") 0) NoSteps (at 1)
    (ValueArg (Path (at 2) (name (codes "x") 2) NoSteps)
    (RefArg (at 5) (name (codes "a") 6) (FieldStep (name (codes "b") 8) (IndexStep (at 9) (Path (at 10) (name (codes "i") 10) NoSteps) NoSteps)) NoArgs)))) ≡
    at 0 ∷ at 0 ∷ at 1 ∷ at 2 ∷ at 2 ∷ at 5 ∷ at 6 ∷ at 8 ∷ at 9 ∷ at 10 ∷ at 10 ∷ []
of_a_call = refl

-- ---- `fun f() { } fun main() { }`, as a lexer cuts it

abbrev empty : ℕ → Block
empty end = roll-Block (record { stmts = []; end = at end })

abbrev fun : List ℕ → ℕ → ℕ → Decl
fun text n end = decl.Fun (record { name = name text n; params = []; result = None; body = empty end })

abbrev fun_tokens : List ℕ → (a b c d e f : ℕ) → Tokens
fun_tokens text a b c d e f = keyword (codes "fun") (at a) ∷ word (name text b) ∷ mark (codes "(") (at c) ∷ mark (codes ")") (at d) ∷ mark (codes "{") (at e) ∷ mark (codes "}") (at f) ∷ []

abbrev two : Tree
two = record { decls = fun (codes "f") 4 10 ∷ fun (codes "main") 16 25 ∷ [] }

abbrev two_tokens : Tokens
two_tokens = fun_tokens (codes "f") 0 4 5 6 8 10 ++ fun_tokens (codes "main") 12 16 20 21 23 25

spelled : Spells two two_tokens
spelled = record {
  decls = more_decls (fun (codes "f") 4 10) _ (fun_tokens (codes "f") 0 4 5 6 8 10) (fun_tokens (codes "main") 12 16 20 21 23 25 ++ [])
      (of_fun (codes "f") 0 4 5 6 8 10)
      (more_decls (fun (codes "main") 16 25) [] (fun_tokens (codes "main") 12 16 20 21 23 25) [] (of_fun (codes "main") 12 16 20 21 23 25) (no_decls refl refl) refl refl)
      refl refl;
}
  where
    of_fun : (text : List ℕ) (a b c d e f : ℕ) → IsDecl (fun text b f) (fun_tokens text a b c d e f)
    of_fun text a b c d e f =
        fun_decl (at a) (at c) (at d) (name text b) [] None (empty f) [] [] (mark (codes "{") (at e) ∷ mark (codes "}") (at f) ∷ []) (no_params refl refl) (no_return refl refl)
        (is_block (at e) (at f) [] [] (none_stmts refl refl) refl refl) refl refl

-- each token begins before the next one
abbrev Steps : Token → Tokens → Type 0
Steps k [] = Unit {0}
Steps k (m ∷ ts) = Before k m × Steps m ts

before_all : (k m : Token) (ts : Tokens) → Before k m → Steps m ts → All (Before k) ts
before_all k m [] h s = All-nil (Before k)
before_all k m (l ∷ ts) h s = All-cons (Before k) l ts (omega (arith, h, s.0)) (before_all k l ts (omega (arith, h, s.0)) s.1)

step_by_step : (k : Token) (ts : Tokens) → Steps k ts → Rise (k ∷ ts)
step_by_step k [] s = AllPairs-cons Before k [] (All-nil (Before k)) (λ i j d l m. absurd (omega (arith, m)))
step_by_step k (m ∷ ts) s = AllPairs-cons Before k (m ∷ ts) (All-cons (Before k) m ts s.0 (before_all k m ts s.0 s.1)) (step_by_step m ts s.1)

two_steps : Steps (keyword (codes "fun") (at 0)) (drop 1 two_tokens)
two_steps = (omega arith, (omega arith, (omega arith, (omega arith, (omega arith, (omega arith, (omega arith, (omega arith, (omega arith, (omega arith, (omega arith, tt)))))))))))

rising : Rise two_tokens
rising = step_by_step (keyword (codes "fun") (at 0)) (drop 1 two_tokens) two_steps

they_end_apart : EndApart (core_tree two)
they_end_apart = bodies_apart two two_tokens spelled rising

-- ---- two functions that end at one place

abbrev at_one_place : Core
at_one_place = record { decls = FunOf (record { name = name (codes "f") 0; params = []; result = None; body = BlockOf NoStmts (at 5) }) ∷ main NoStmts 5 ∷ [] }

they_dont : EndApart at_one_place → ⊥
they_dont h = absurd (omega (arith, h 0 1 _ _ refl refl refl))
