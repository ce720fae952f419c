use Rattle.std.proofs.Common.{◌≡◌, ◌∙◌, arith}
use Rattle.std.proofs.lemmas.Grind.{common_steps}
use Rattle.hv_tree.specs.Place.{column_of}
use Rattle.hv_tree.proofs.Columns.{column_of_characters}
use Rattle.hv_tree.proofs.place.line_col.Goals as goal

pub returns-clause-characters : goal.returns-clause-characters
returns-clause-characters c =
    let h : c.loop-byte.column ≡ column_of c.args.source.now c.args.at.start = grind (arith, common_steps) in
    λ characters e. h ∙ column_of_characters c.args.source.now c.args.at.start characters e
