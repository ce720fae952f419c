use Rattle.std.proofs.Common.{map}
use Rattle.hv_words.proofs.NameLemmas.{flag_by_name, none_by_name}
use Rattle.hv_words.proofs.subcommand.Form.is_flag.Goals as goal

pub returns-in-Some : goal.returns-in-Some
returns-in-Some c =
    flag_by_name c.args.word.now (map (λ s. s.now) c.args.self.now.flags.now) c.name_of.result c.in-Some.name c.is_among.result c.in-Some.is c.name_of.ensures c.is_among.ensures

pub returns-in-None : goal.returns-in-None
returns-in-None c =
    none_by_name (λ n. n) c.args.word.now (map (λ s. s.now) c.args.self.now.flags.now) c.name_of.result c.in-None.is c.name_of.ensures
