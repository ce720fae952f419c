-- The reasons for a stop, and the stop word that holds them.
use Rattle.std.specs.Prelude.{◌≡◌, ℕ, ◌/◌, ◌%◌, ◌==◌, ◌||◌, Bool, true, false, Option, Some, None}
use Rattle.hv_cell.specs.declared.why.Why.{Why}
use Rattle.hv_cell.specs.declared.why.Why.TheVariants.{Finished, NoMemory}
use Rattle.hv_cell.specs.declared.why.Reasons.{Reasons}

abbrev pub reasons : Bool → Bool → Reasons
reasons f m = record { finished = f; no_memory = m }

abbrev pub no_reason : Reasons
no_reason = reasons false false

abbrev pub only : Why → Reasons
only Finished = reasons true false
only NoMemory = reasons false true

abbrev pub both : Reasons → Reasons → Reasons
both a b = reasons (a.finished || b.finished) (a.no_memory || b.no_memory)

abbrev pub has : Why → Reasons → Bool
has Finished r = r.finished
has NoMemory r = r.no_memory

-- each reason of the one is among the other's
abbrev pub Within : Reasons → Reasons → Type 0
Within a b = (why : Why) → has why a ≡ true → has why b ≡ true

abbrev pub answered : Bool → Bool → Option Why
answered true m = Some Finished
answered false true = Some NoMemory
answered false false = None

-- what is answered of these reasons: nothing where there is none, and Finished goes first
abbrev pub answer_of : Reasons → Option Why
answer_of r = answered r.finished r.no_memory

-- the bits of the stop word
abbrev pub bit_of : Why → ℕ
bit_of Finished = 1
bit_of NoMemory = 2

abbrev pub coded : Bool → Bool → ℕ
coded false false = 0
coded true false = 1
coded false true = 2
coded true true = 3

abbrev pub word_of : Reasons → ℕ
word_of r = coded r.finished r.no_memory

-- the reasons whose bits a number has
abbrev pub reasons_in : ℕ → Reasons
reasons_in n = reasons (n % 2 == 1) (n / 2 % 2 == 1)
