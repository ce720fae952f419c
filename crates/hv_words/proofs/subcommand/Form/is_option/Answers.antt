use Rattle.std.proofs.Common.{map}
use Rattle.hv_words.specs.Line.{setting_of}
use Rattle.hv_words.proofs.NameLemmas.{none_by_name, option_by_name}
use Rattle.hv_words.proofs.subcommand.Form.is_option.Goals as goal

pub returns-in-Some : goal.returns-in-Some
returns-in-Some c =
    option_by_name c.args.word.now c.args.self.now.options.now c.name_of.result c.in-Some.name c.has_option.result c.in-Some.is c.name_of.ensures c.has_option.ensures

pub returns-in-None : goal.returns-in-None
returns-in-None c =
    none_by_name (λ o. o.name) c.args.word.now (map setting_of c.args.self.now.options.now) c.name_of.result c.in-None.is c.name_of.ensures
