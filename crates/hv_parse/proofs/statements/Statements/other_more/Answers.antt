use Rattle.hv_syn_grammar.specs.Declarations.{inner}
use Rattle.hv_parse.proofs.ItemTurns.{added}
use Rattle.hv_parse.proofs.statements.Statements.other_more.Goals as goal

pub returns : goal.returns
returns g c = added c.args.self.now.terms.room (inner c.args.self.now.terms.room) c.args.cursor.now c.other_stmt.new.cursor c.semicolon.new.cursor c.in_ok-stmt.stmt c.args.found.now c.push.new.self c.in_ok-stmt.ensures c.in_ok-semicolon.ensures c.in_ok-push.ensures.ok
