-- The parts of an `if` after its first branch, beside the loop that reads them.
use Rattle.std.proofs.Common.{◌≡◌, ℕ, ◌+◌, ◌-◌, ◌<◌, true, false, List, [], ◌∷◌, ◌++◌, length, Option, Some, None, refl, sym, ◌∙◌, ap, append_assoc, append-nil}
use Rattle.std.specs.Prelude.{codes}
use Rattle.hv_tree.specs.declared.ast.Block.{Block}
use Rattle.hv_tree.specs.declared.ast.Branch.{Branch}
use Rattle.hv_tree.specs.Tokens.{Tokens}
use Rattle.hv_syn_grammar.specs.declared.parts.ElsePart.{ElsePart}
use Rattle.hv_syn_grammar.specs.declared.parts.ElsePart.TheVariants as part
use Rattle.hv_syn_grammar.specs.Parser.{Read, Got, Off, Deep, Parser, read_then, done, passes, until_within, until}
use Rattle.hv_syn_grammar.specs.Lexemes.{is_keyword}
use Rattle.hv_syn_grammar.specs.Expressions.{Inner}
use Rattle.hv_syn_grammar.specs.Statements.{is_last, branches_of, otherwise_of, else_parts, else_part}
use Rattle.hv_parse.specs.Parts.{parts_after}
use Rattle.hv_parse.proofs.Untils.{until_begins, until_none, until_end, until_more, until_last, until_off, until_deep, given}

-- what was found, with the parts that are left
abbrev pub with_parts : List Branch → List ElsePart → List Branch × Option Block
with_parts found parts = (found ++ branches_of parts, otherwise_of parts)

-- what is left to read
abbrev pub parts_left : ℕ → Parser ElsePart → Tokens → List Branch → Read (List Branch × Option Block)
parts_left n p ts found = read_then (until_within n (is_keyword (codes "else")) is_last p ts) (λ more. done (with_parts found more))

twice : {A B C : Type 0} (f : A → B) (g : B → C) (q : Read A) → read_then (read_then q (λ a. done (f a))) (λ b. done (g b)) ≡ read_then q (λ a. done (g (f a)))
twice f g (Got a ts) = refl
twice f g (Off ts) = refl
twice f g (Deep ts) = refl

pub else_begins : (d : ℕ) (i : Inner) (first : Branch) (ts : Tokens) → parts_after first (else_parts d i) ts ≡ parts_left (length ts - 0) (else_part d i) ts (first ∷ [])
unfolding else_parts
else_begins d i first ts =
    twice (λ parts. (branches_of parts, otherwise_of parts)) (λ more. (first ∷ more.0, more.1)) (until (is_keyword (codes "else")) is_last (else_part d i) ts)
    ∙ until_begins (is_keyword (codes "else")) is_last (else_part d i) (with_parts (first ∷ [])) ts

none_left : (found : List Branch) → with_parts found [] ≡ (found, None)
none_left found = ap (λ l. (l, None)) (append-nil found)

pub else_none : (n : ℕ) (p : Parser ElsePart) (ts : Tokens) (found : List Branch) → passes (is_keyword (codes "else")) ts ≡ false → parts_left n p ts found ≡ Got (found, None) ts
else_none n p ts found e = until_none (is_keyword (codes "else")) is_last p n (with_parts found) ts e ∙ ap (λ r. Got r ts) (none_left found)

pub else_end : (n : ℕ) (p : Parser ElsePart) (ts : Tokens) (found : List Branch) → n ≡ 0 → parts_left n p ts found ≡ Got (found, None) ts
else_end n p ts found e = until_end (is_keyword (codes "else")) is_last p n (with_parts found) ts e ∙ ap (λ r. Got r ts) (none_left found)

one_more : (found : List Branch) (b : Branch) (more : List ElsePart) → with_parts found (part.Test b ∷ more) ≡ with_parts (found ++ b ∷ []) more
one_more found b more = ap (λ l. (l, otherwise_of more)) (sym (append_assoc found (b ∷ []) (branches_of more)))

pub else_test : (n at : ℕ) (p : Parser ElsePart) (ts rest : Tokens) (found : List Branch) (b : Branch) → at < n → passes (is_keyword (codes "else")) ts ≡ true → p ts ≡ Got (part.Test b) rest → parts_left (n - at) p ts found ≡ parts_left (n - (at + 1)) p rest (found ++ b ∷ [])
else_test n at p ts rest found b below e g =
    until_more (is_keyword (codes "else")) is_last p n at (with_parts found) ts rest (part.Test b) below e g refl
    ∙ given (λ more. with_parts found (part.Test b ∷ more)) (with_parts (found ++ b ∷ [])) (until_within (n - (at + 1)) (is_keyword (codes "else")) is_last p rest) (one_more found b)

pub else_last : (n at : ℕ) (p : Parser ElsePart) (ts rest : Tokens) (found : List Branch) (b : Block) → at < n → passes (is_keyword (codes "else")) ts ≡ true → p ts ≡ Got (part.Last b) rest → parts_left (n - at) p ts found ≡ Got (found, Some b) rest
else_last n at p ts rest found b below e g =
    until_last (is_keyword (codes "else")) is_last p n at (with_parts found) ts rest (part.Last b) below e g refl
    ∙ ap (λ l. Got (l, Some b) rest) (append-nil found)

pub else_off : (n at : ℕ) (p : Parser ElsePart) (ts rest : Tokens) (found : List Branch) → at < n → passes (is_keyword (codes "else")) ts ≡ true → p ts ≡ Off rest → parts_left (n - at) p ts found ≡ Off rest
else_off n at p ts rest found below e g = until_off (is_keyword (codes "else")) is_last p n at (with_parts found) ts rest below e g

pub else_deep : (n at : ℕ) (p : Parser ElsePart) (ts rest : Tokens) (found : List Branch) → at < n → passes (is_keyword (codes "else")) ts ≡ true → p ts ≡ Deep rest → parts_left (n - at) p ts found ≡ Deep rest
else_deep n at p ts rest found below e g = until_deep (is_keyword (codes "else")) is_last p n at (with_parts found) ts rest below e g

-- a value that is made of the branches with their first
pub parts_then : {A : Type 0} (first : Branch) (q : Read (List Branch × Option Block)) (f : List Branch × Option Block → A) → read_then q (λ more. done (f (first ∷ more.0, more.1))) ≡ read_then (read_then q (λ more. done (first ∷ more.0, more.1))) (λ all. done (f all))
parts_then first (Got more ts) f = refl
parts_then first (Off ts) f = refl
parts_then first (Deep ts) f = refl
