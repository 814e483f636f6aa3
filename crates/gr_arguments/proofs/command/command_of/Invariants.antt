use Rattle.gr_model.proofs.Common.{◌≡◌, take, false}
use Rattle.clap.specs.declared.builder.command.Command.TheViews.{out-Command as fields_of}
use Rattle.clap.specs.Words.{app_of, new_app}
use Rattle.gr_arguments.specs.Pages.{with_rules}
use Rattle.gr_arguments.proofs.command.command_of.Given as goal

abbrev pub invariant-loop-parameter : goal.invariant-loop-parameter
invariant-loop-parameter l = (app_of l.command ≡ with_rules (new_app l.fn.page.name.now) (take l.parameter-index l.fn.page.parameters.now)) × ((fields_of l.command).has_globals ≡ false)
