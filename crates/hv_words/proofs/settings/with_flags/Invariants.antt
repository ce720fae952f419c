use Rattle.std.proofs.Common.{◌≡◌, map, drop}
use Rattle.clap.specs.Words.{app_of}
use Rattle.hv_words.specs.Reading.{flag_rule, with_rules}
use Rattle.hv_words.proofs.settings.with_flags.Given as goal

abbrev pub invariant-loop-name : goal.invariant-loop-name
invariant-loop-name l =
    with_rules (app_of l.command) (map flag_rule (map (λ s. s.now) (drop l.name-index l.flags)))
    ≡ with_rules (app_of l.initial.command) (map flag_rule (map (λ s. s.now) l.flags))
