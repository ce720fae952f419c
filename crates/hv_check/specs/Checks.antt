-- What `check` answers, in the words of the tokens, of the grammar, and of the rules of names and types.
use Rattle.std.specs.Prelude.{◌≡◌, ℕ, List, [], ◌∷◌, length, Option, Some, None, Result, Ok, Err}
use Rattle.hv_tree.specs.declared.refusal.Refusal.{Refusal}
use Rattle.hv_tree.specs.declared.ast.Tree.{Tree}
use Rattle.hv_tree.specs.Tokens.{Tokens}
use Rattle.hv_tree.specs.Core.{core_tree}
use Rattle.hv_token.specs.Lexes.{Lexes}
use Rattle.hv_parse.specs.Answers.{IsParsed, IsRefused}
use Rattle.hv_rules.specs.Accepted.{Phase, NamePhase, TypePhase, IsFirstOf}
use Rattle.hv_check.specs.declared.phases.CheckEnd.{CheckEnd}
use Rattle.hv_check.specs.declared.phases.CheckEnd.TheVariants as end

-- ---- tokens and grammar

-- the source is cut into tokens to its end, which spell this program
pub record IsRead (bytes : List ℕ) (tree : Tree) : Type 0 where
  pub tokens : Tokens
  pub lexes : Lexes bytes tokens None
  pub parsed : IsParsed tokens None tree

-- the first rule that is violated among those on tokens and on the grammar, and where
pub record IsUnread (bytes : List ℕ) (refusal : Refusal) : Type 0 where
  pub tokens : Tokens
  pub stop : Option Refusal
  pub lexes : Lexes bytes tokens stop
  pub refused : IsRefused tokens stop (record { start = length bytes }) refusal

-- ---- names and types

-- the phases in which a program is judged
abbrev pub judged_phases : List Phase
judged_phases = NamePhase ∷ TypePhase ∷ []

-- the first violation of the first of these phases that has one, or none where none has
abbrev pub IsJudged : Tree → Option Refusal → Type 0
IsJudged tree found = IsFirstOf judged_phases (core_tree tree) found

-- ---- sources

-- a program is read that violates no rule
pub record IsAccepted (bytes : List ℕ) (tree : Tree) : Type 0 where
  pub read : IsRead bytes tree
  pub obeys : IsJudged tree None

-- the first rule that is violated, and where; a program is only judged once it is read
pub data IsFirst (bytes : List ℕ) (refusal : Refusal) : Type 0 where
  unread : IsUnread bytes refusal → IsFirst bytes refusal
  judged : (tree : Tree) → IsRead bytes tree → IsJudged tree (Some refusal) → IsFirst bytes refusal

-- of both there is one, and only one
abbrev pub Checks : List ℕ → Result Tree CheckEnd → Type 0
Checks bytes (Ok tree) = IsAccepted bytes tree × ((other : Tree) → IsAccepted bytes other → other ≡ tree) × ((r : Refusal) → IsFirst bytes r → ⊥)
Checks bytes (Err (end.Refused refusal)) = IsFirst bytes refusal × ((other : Refusal) → IsFirst bytes other → other ≡ refusal) × ((tree : Tree) → IsAccepted bytes tree → ⊥)
Checks bytes (Err end.NoMemory) = Unit {0}

-- ---- what is promised inside

-- as far as the tokens and the grammar go
abbrev pub Reads : List ℕ → Result Tree CheckEnd → Type 0
Reads bytes (Ok tree) = IsRead bytes tree
Reads bytes (Err (end.Refused refusal)) = IsUnread bytes refusal
Reads bytes (Err end.NoMemory) = Unit {0}
