use Rattle.gr_model.proofs.Common.{◌≡◌, take}
use Rattle.clap.specs.Words.{app_of}
use Rattle.gr_arguments.specs.Pages.{with_commands}
use Rattle.gr_arguments.proofs.command.with_pages.Given as goal

abbrev pub invariant-loop-page : goal.invariant-loop-page
invariant-loop-page l = app_of l.command ≡ with_commands (app_of l.initial.command) (take l.page-index l.pages)
