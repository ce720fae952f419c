use Rattle.std.proofs.Common.{◌≡◌, ◌-◌, ◌++◌}
use Rattle.hv_syn_grammar.specs.Parser.{many_within, read_then, done}
use Rattle.hv_syn_grammar.specs.Declarations.{decls, one_decl, begins_decl}
use Rattle.hv_parse.proofs.declarations.decls.Given as goal

abbrev pub invariant-loop-turn : goal.invariant-loop-turn
invariant-loop-turn l = decls l.room l.fn.cursor ≡ read_then (many_within (l._turn-end - l._turn) begins_decl (one_decl l.room) l.cursor) (λ more. done (l.found ++ more))
