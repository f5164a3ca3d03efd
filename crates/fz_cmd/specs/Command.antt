-- The command whose words clap reads: the options of the table, each by a rule, and FILE.
use Rattle.std.specs.Prelude.{ℕ, true, Option, Some, None, [], ◌∷◌, ◌++◌, codes, fold, map, List}
use denote.Ref.{Bor}
use Rattle.clap.specs.Simple.{App, new_app, new_rule, with_rule, on_top}
use Rattle.clap.specs.Walk.{Rule}
use Rattle.clap.specs.Words.{Text}
use Rattle.clap.specs.declared.builder.action.ArgAction.{ArgAction}
use Rattle.clap.specs.declared.builder.action.ArgAction.TheVariants.{Set, SetTrue}
use Rattle.clap.specs.declared.builder.value_parser.ValueParser.{ValueParser}
use Rattle.clap.specs.declared.builder.value_parser.ValueParser.TheVariants.{Signed, Unsigned}
use Rattle.fz_cmd.specs.declared.options.Takes.{Takes}
use Rattle.fz_cmd.specs.declared.options.Takes.TheVariants as takes
use Rattle.fz_cmd.specs.declared.options.TheConstants.{OPTIONS}

-- one without a letter is called by its name
abbrev pub word_of : Text → Option ℕ → Option Text
word_of name None = Some name
word_of name (Some letter) = None

abbrev pub action_of : Takes → ArgAction
action_of takes.Nothing = SetTrue
action_of other = Set

abbrev pub parser_of : Takes → Option ValueParser
parser_of takes.Nothing = None
parser_of (takes.Number least most) = Some (Unsigned least most)
parser_of (takes.Defaulted least most default) = Some (Unsigned least most)
parser_of takes.Text = None
parser_of (takes.Signed least most) = Some (Signed least most)

-- the rule of an option
abbrev pub option_rule : Text → Option ℕ → Takes → Rule
option_rule name letter taken = record (new_rule name) { short = letter; long = word_of name letter; action = Some (action_of taken); parser = parser_of taken }

abbrev pub rule_of_row : Bor Text × Option ℕ × Takes × Bor Text → Rule
rule_of_row r = option_rule r.0.now r.1 r.2

-- FILE
abbrev pub file_rule : Rule
file_rule = record (new_rule (codes "file")) { action = Some Set }

abbrev pub option_rules : List Rule
option_rules = map (λ r. option_rule r.0.now r.1 r.2) OPTIONS

-- Each word is an argument, and no option is clap's own.
abbrev pub plain_app : App
plain_app = on_top (λ s. record s { no_binary_name = true; disable_help_flag = true }) (new_app (codes "fzn"))

abbrev pub fzn_app : App
fzn_app = fold with_rule plain_app (option_rules ++ file_rule ∷ [])
