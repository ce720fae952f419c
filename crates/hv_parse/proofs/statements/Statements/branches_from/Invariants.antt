use Rattle.std.proofs.Common.{◌≡◌, ◌-◌}
use Rattle.hv_syn_grammar.specs.Declarations.{inner}
use Rattle.hv_syn_grammar.specs.Statements.{else_parts, else_part}
use Rattle.hv_parse.specs.Parts.{parts_after}
use Rattle.hv_parse.proofs.ElseTurns.{parts_left}
use Rattle.hv_parse.proofs.statements.Statements.branches_from.Given as goal

abbrev pub invariant-loop-turn : goal.invariant-loop-turn
invariant-loop-turn g l = parts_after l.fn.first (else_parts l.self.terms.room (inner l.self.terms.room)) l.fn.cursor ≡ parts_left (l._turn-end - l._turn) (else_part l.self.terms.room (inner l.self.terms.room)) l.cursor l.found
