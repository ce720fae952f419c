use Rattle.std.proofs.Common.{◌∙◌, ap, map}
use Rattle.std.proofs.lemmas.Result.{IfOk-weaker}
use Rattle.hv_words.specs.Line.{setting_of}
use Rattle.hv_words.specs.Reading.{app_by, bare_app, flag_rule, option_rule, with_rules}
use Rattle.hv_words.proofs.Rules.{all_more}
use Rattle.hv_words.proofs.settings.command.Goals as goal

pub returns : goal.returns
unfolding app_by
returns c =
    IfOk-weaker c.with_flags.result _ _
    (λ r h. h ∙ ap (λ a. with_rules a (map flag_rule (map (λ s. s.now) c.args.form.now.flags.now))) (c.in_ok-command.ensures ∙ ap (λ a. with_rules a (map option_rule (map setting_of c.args.form.now.options.now))) c.bare.ensures)
    ∙ all_more bare_app (map option_rule (map setting_of c.args.form.now.options.now)) (map flag_rule (map (λ s. s.now) c.args.form.now.flags.now)))
    c.with_flags.ensures
