use Rattle.std.proofs.Common.{◌≡◌, ◌++◌, [], drop, codes}
use Rattle.std.specs.Prelude.{string_bytes}
use denote.Text.{Utf8}
use denote.Shadow.{shadow}
use Rattle.hv_print.specs.Texts as texts
use Rattle.hv_print.proofs.statements.+parts.Given as goal

abbrev pub invariant-push_links-loop-operator : goal.invariant-push_links-loop-operator
invariant-push_links-loop-operator l = string_bytes l.out ++ texts.links_text l.depth l.outer (drop l.operator-index l.links) ≡ string_bytes l.fn.out ++ texts.links_text l.depth l.outer l.fn.links

abbrev pub invariant-push_exprs-loop-x : goal.invariant-push_exprs-loop-x
invariant-push_exprs-loop-x l = shadow (Utf8 l.before) × (string_bytes l.out ++ texts.exprs_text l.depth l.before (drop l.x-index l.xs) ≡ string_bytes l.fn.out ++ texts.exprs_text l.depth [] l.fn.xs)

abbrev pub invariant-push_steps-loop-step : goal.invariant-push_steps-loop-step
invariant-push_steps-loop-step l = string_bytes l.out ++ texts.steps_text l.depth (drop l.step-index l.steps) ≡ string_bytes l.fn.out ++ texts.steps_text l.depth l.fn.steps

abbrev pub invariant-push_args-loop-arg : goal.invariant-push_args-loop-arg
invariant-push_args-loop-arg l = shadow (Utf8 l.before) × (string_bytes l.out ++ texts.args_text l.depth l.before (drop l.arg-index l.args) ≡ string_bytes l.fn.out ++ texts.args_text l.depth [] l.fn.args)

abbrev pub invariant-push_stmts-loop-stmt : goal.invariant-push_stmts-loop-stmt
invariant-push_stmts-loop-stmt l = string_bytes l.out ++ texts.stmts_text l.depth (drop l.stmt-index l.stmts) ≡ string_bytes l.fn.out ++ texts.stmts_text l.depth l.fn.stmts

abbrev pub invariant-push_branches-loop-branch : goal.invariant-push_branches-loop-branch
invariant-push_branches-loop-branch l = shadow (Utf8 l.before) × (string_bytes l.out ++ texts.branches_text l.depth l.before (drop l.branch-index l.branches) ≡ string_bytes l.fn.out ++ texts.branches_text l.depth (codes "if ") l.fn.branches)
