-- The commands and rules that the pages of the program define.
use Rattle.std.specs.Prelude.{List, fold}
use Rattle.clap.specs.Words.{App, Rule, Shape, new_app, with_rule, with_subcommand}
use Rattle.gr_arguments.specs.declared.command.Page.{Page}
use Rattle.gr_arguments.specs.declared.command.Parameter.{Parameter}
use Rattle.gr_arguments.specs.declared.command.Parameter.TheVariants.{Files, Flag, Valued, Wanted}
use Rattle.gr_arguments.specs.Commands.{flag_rule, option_rule, wanted, wanted_files}

-- the rule of a parameter
abbrev pub rule_for : Parameter → Rule
rule_for (Flag name help) = flag_rule name.now
rule_for (Valued name value help) = option_rule name.now
rule_for (Wanted name help) = wanted name.now
rule_for Files = wanted_files

-- a command with these parameters too
abbrev pub with_rules : App → List Parameter → App
with_rules app parameters = fold (λ a p. with_rule a (rule_for p)) app parameters

-- the command of a page
abbrev pub shape_for : Page → Shape
shape_for page = (with_rules (new_app page.name.now) page.parameters.now).top

-- a program with the commands of these pages too
unfoldable pub with_commands : App → List Page → App
with_commands app pages = fold (λ a page. with_subcommand a (shape_for page)) app pages
