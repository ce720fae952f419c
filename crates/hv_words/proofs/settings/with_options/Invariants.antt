use Rattle.std.proofs.Common.{◌≡◌, map, drop}
use Rattle.clap.specs.Words.{app_of}
use Rattle.hv_words.specs.Line.{setting_of}
use Rattle.hv_words.specs.Reading.{option_rule, with_rules}
use Rattle.hv_words.proofs.settings.with_options.Given as goal

abbrev pub invariant-loop-setting : goal.invariant-loop-setting
invariant-loop-setting l =
    with_rules (app_of l.command) (map option_rule (map setting_of (drop l.setting-index l.options)))
    ≡ with_rules (app_of l.initial.command) (map option_rule (map setting_of l.options))
