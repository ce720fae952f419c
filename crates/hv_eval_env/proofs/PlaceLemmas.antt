-- The first places of numbers, and of bodies by where they end.
use Rattle.std.proofs.Common.{◌≡◌, ◌+◌, ℕ, suc, ◌==◌, Bool, true, false, if◌then◌else◌, List, [], ◌∷◌, ◌++◌, length, map, Option, Some, None, is_some, refl, sym, ap, ◌∙◌, arith, cond}
use Rattle.std.proofs.lemmas.Bool.{eqb-true}
use Rattle.hv_tree.specs.declared.place.Place.{Place}
use Rattle.hv_tree.specs.declared.ast.Tree.{Tree}
use Rattle.hv_tree.specs.declared.ast.Block.{Block, out-Block}
use Rattle.hv_tree.specs.Core.{core_tree, core_block, end_of}
use Rattle.hv_tree.proofs.CoreLemmas.{opened_block}
use Rattle.hv_decls.specs.Locals.{CoreBody}
use Rattle.hv_decls.specs.Sites.{bodies_of}
use Rattle.hv_sem_copying.specs.Places.{number_from}
use Rattle.hv_eval_env.specs.Programs.{end_place}
use Rattle.hv_eval_env.specs.Firsts.{place_from, first_place}

-- the place if there is one, else the other one
abbrev pub or_else : Option ℕ → Option ℕ → Option ℕ
or_else None other = other
or_else (Some n) other = Some n

chosen : (b : Bool) (n : ℕ) (a c : Option ℕ) → (if b then Some n else or_else a c) ≡ or_else (if b then Some n else a) c
chosen true n a c = refl
chosen false n a c = refl

from_more : (n : ℕ) (xs : List ℕ) (x q : ℕ) → place_from n (xs ++ x ∷ []) q ≡ or_else (place_from n xs q) (if x == q then Some (n + length xs) else None)
from_more n [] x q = ap (λ k. if x == q then Some k else None) (omega arith)
from_more n (y ∷ xs) x q =
    ap (λ o. if y == q then Some n else o) (from_more (suc n) xs x q ∙ ap (λ k. or_else (place_from (suc n) xs q) (if x == q then Some k else None)) (omega arith))
    ∙ chosen (y == q) n (place_from (suc n) xs q) (if x == q then Some (n + suc (length xs)) else None)

place_more : (xs : List ℕ) (x q : ℕ) → first_place (xs ++ x ∷ []) q ≡ or_else (first_place xs q) (if x == q then Some (length xs) else None)
unfolding first_place
place_more xs x q = from_more 0 xs x q ∙ ap (λ k. or_else (place_from 0 xs q) (if x == q then Some k else None)) (omega arith)

some_kept : (o p : Option ℕ) → is_some o ≡ true → or_else o p ≡ o
some_kept (Some n) p e = refl
some_kept None p e = cc

none_left : (o : Option ℕ) → or_else o None ≡ o
none_left (Some n) = refl
none_left None = refl

none_first : (o p : Option ℕ) → is_some o ≡ false → or_else o p ≡ p
none_first (Some n) p e = cc
none_first None p e = refl

kept_by : (b : Bool) (xs : List ℕ) (x q : ℕ) → (x == q) ≡ b → is_some (first_place xs x) ≡ true → or_else (first_place xs q) (if b then Some (length xs) else None) ≡ first_place xs q
kept_by true xs x q e h = some_kept (first_place xs q) (Some (length xs)) (rw (← eqb-true x q e) h)
kept_by false xs x q e h = none_left (first_place xs q)

-- a number that is there already changes nothing
pub kept : (xs : List ℕ) (x q : ℕ) → is_some (first_place xs x) ≡ true → first_place (xs ++ x ∷ []) q ≡ first_place xs q
kept xs x q h = place_more xs x q ∙ kept_by (x == q) xs x q refl h

added_by : (b : Bool) (xs : List ℕ) (x q : ℕ) → (x == q) ≡ b → is_some (first_place xs x) ≡ false → cond b (Some (length xs)) (first_place xs q) ≡ or_else (first_place xs q) (if b then Some (length xs) else None)
added_by true xs x q e h = sym (none_first (first_place xs q) (Some (length xs)) (rw (← eqb-true x q e) h))
added_by false xs x q e h = sym (none_left (first_place xs q))

-- a new number stands at the end
pub added : (xs : List ℕ) (x q n : ℕ) (was now : Option ℕ) → n ≡ length xs → is_some (first_place xs x) ≡ false → was ≡ first_place xs q → now ≡ cond (x == q) (Some n) was → now ≡ first_place (xs ++ x ∷ []) q
added xs x q n was now size h e f =
    f ∙ ap (λ o. cond (x == q) (Some n) o) e
    ∙ ap (λ k. cond (x == q) (Some k) (first_place xs q)) size
    ∙ added_by (x == q) xs x q refl h
    ∙ sym (place_more xs x q)

-- ---- bodies

number_by : (n : ℕ) (bs : List CoreBody) (at : Place) → place_from n (map end_place bs) at.start ≡ number_from n bs at
number_by n [] at = refl
number_by n (b ∷ bs) at = ap (λ o. if end_place b == at.start then Some n else o) (number_by (suc n) bs at)

-- a body is found by where its block ends
pub number_at : (t u : Tree) (ends : List ℕ) (at : Place) → t ≡ u → ends ≡ map end_place (bodies_of (core_tree t)) → first_place ends at.start ≡ number_from 0 (bodies_of (core_tree u)) at
unfolding first_place
number_at t u ends at same e = ap (λ l. place_from 0 l at.start) (e ∙ ap (λ s. map end_place (bodies_of (core_tree s))) same) ∙ number_by 0 (bodies_of (core_tree u)) at

-- where a block ends
pub block_end : (b : Block) → (end_of (core_block b)).start ≡ (out-Block b).end.start
block_end b = ap (λ k. (end_of k).start) (opened_block b)
