use Rattle.hv_parse.proofs.knot.+knot.Given as goal

abbrev pub decreases-expr_to : goal.decreases-expr_to
decreases-expr_to l = l.room

abbrev pub decreases-place_to : goal.decreases-place_to
decreases-place_to l = l.room

abbrev pub decreases-stmts_to : goal.decreases-stmts_to
decreases-stmts_to l = l.room
