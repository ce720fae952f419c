use Rattle.std.proofs.Common.{◌≡◌, ◌-◌}
use Rattle.hv_syn_grammar.specs.Declarations.{inner}
use Rattle.hv_syn_grammar.specs.Statements.{stmts, item}
use Rattle.hv_parse.proofs.ItemTurns.{items_left}
use Rattle.hv_parse.proofs.statements.Statements.stmts.Given as goal

abbrev pub invariant-loop-turn : goal.invariant-loop-turn
invariant-loop-turn g l = stmts l.self.terms.room (inner l.self.terms.room) l.fn.cursor ≡ items_left (l._turn-end - l._turn) (item l.self.terms.room (inner l.self.terms.room)) l.cursor l.found
