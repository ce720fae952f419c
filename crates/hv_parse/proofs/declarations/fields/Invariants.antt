use Rattle.std.proofs.Common.{◌≡◌, ◌-◌, ◌++◌}
use Rattle.std.specs.Prelude.{codes}
use Rattle.hv_syn_grammar.specs.Parser.{many_within, read_then, done}
use Rattle.hv_syn_grammar.specs.Lexemes.{is_keyword}
use Rattle.hv_syn_grammar.specs.Declarations.{fields, field}
use Rattle.hv_parse.proofs.declarations.fields.Given as goal

abbrev pub invariant-loop-turn : goal.invariant-loop-turn
invariant-loop-turn l = fields l.room l.fn.cursor ≡ read_then (many_within (l._turn-end - l._turn) (is_keyword (codes "var")) (field l.room) l.cursor) (λ more. done (l.found ++ more))
