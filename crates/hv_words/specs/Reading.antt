-- The command that clap reads the options and flags of a subcommand by.
use Rattle.std.specs.Prelude.{List, [], ◌∷◌, ◌++◌, Some, map, true, codes}
use Rattle.clap.specs.Words.{App, Rule, new_app, new_rule, with_rule}
use Rattle.clap.specs.declared.builder.action.ArgAction.TheVariants.{Set, SetTrue}
use Rattle.clap.specs.declared.builder.value_parser.ValueParser.TheVariants.{Unsigned}
use Rattle.clap.specs.declared.error.kind.ErrorKind.{ErrorKind}
use Rattle.clap.specs.declared.error.kind.ErrorKind.TheVariants.{OutOfMemory}
use Rattle.hv_words.specs.Taken.{Form, Setting, Word}
use Rattle.hv_words.specs.declared.order.WordsEnd.{WordsEnd}
use Rattle.hv_words.specs.declared.order.WordsEnd.TheVariants.{Usage, NoMemory}

abbrev pub option_rule : Setting → Rule
option_rule s = record (new_rule s.name) {
  long = Some s.name;
  action = Some Set;
  parser = Some (Unsigned s.least s.most);
}

abbrev pub flag_rule : Word → Rule
flag_rule name = record (new_rule name) { long = Some name; action = Some SetTrue }

abbrev pub bare_app : App
bare_app = record {
  top = record (new_app (codes "hv")).top { no_binary_name = true; disable_help_flag = true };
  subs = (new_app (codes "hv")).subs;
}

-- with more arguments
abbrev pub with_rules : App → List Rule → App
with_rules app [] = app
with_rules app (rule ∷ rules) = with_rules (with_rule app rule) rules

-- an argument for each option and each flag
abbrev pub rules_of : Form → List Rule
rules_of f = map option_rule f.options ++ map flag_rule f.flags

unfoldable pub app_by : Form → App
app_by f = with_rules bare_app (rules_of f)

-- the end that an error of clap is
abbrev pub end_by : ErrorKind → WordsEnd
end_by OutOfMemory = NoMemory
end_by _ = Usage
