-- What is answered of a whole list, by what was read and by the tokens that are left.
use Rattle.std.specs.Prelude.{ℕ, ◌-◌, length, Option, Some, None, Result, Ok, Err}
use Rattle.std.specs.List.{slice_get}
use Rattle.hv_tree.specs.declared.place.Place.{Place}
use Rattle.hv_tree.specs.declared.refusal.Rule.TheVariants as rule
use Rattle.hv_tree.specs.declared.refusal.Refusal.{Refusal}
use Rattle.hv_tree.specs.declared.token.Token.{Token}
use Rattle.hv_tree.specs.declared.ast.Tree.{Tree}
use Rattle.hv_tree.specs.Tokens.{Tokens}
use Rattle.hv_syn_grammar.specs.declared.stop.Stop.{Stop}
use Rattle.hv_syn_grammar.specs.declared.stop.Stop.TheVariants as stop
use Rattle.hv_parse.specs.declared.parsed.ParseEnd.{ParseEnd}
use Rattle.hv_parse.specs.declared.parsed.ParseEnd.TheVariants as end
use Rattle.hv_parse.specs.Answers.{refused}

abbrev pub place_in : Option Token → Option Place
place_in None = None
place_in (Some k) = Some k.place

-- the place of the first of the last tokens
abbrev pub place_back : Tokens → ℕ → Option Place
place_back tokens left = place_in (slice_get tokens (length tokens - left))

-- the place of the next token, or else what stopped the lexer, or else the end
abbrev pub off_refusal : Option Place → Option Refusal → Place → Refusal
off_refusal (Some at) stopped at_end = refused rule.P1 at
off_refusal None (Some r) at_end = r
off_refusal None None at_end = refused rule.P1 at_end

abbrev pub place_or : Option Place → Place → Place
place_or (Some at) at_end = at
place_or None at_end = at_end

abbrev pub unless_stopped : Option Refusal → Tree → Result Tree ParseEnd
unless_stopped None tree = Ok tree
unless_stopped (Some r) tree = Err (end.Refused r)

abbrev pub answer_of : Option Place → Option Refusal → Place → Result Tree Stop → Result Tree ParseEnd
answer_of next stopped at_end (Ok tree) = unless_stopped stopped tree
answer_of next stopped at_end (Err stop.Off) = Err (end.Refused (off_refusal next stopped at_end))
answer_of next stopped at_end (Err stop.Deep) = Err (end.Refused (refused rule.P2 (place_or next at_end)))
answer_of next stopped at_end (Err stop.NoMemory) = Err end.NoMemory
