use Rattle.gr_model.proofs.Common.{◌≡◌, ◌∙◌, List, Result, ap, codes, true, [], IfOk, IfOk-weaker}
use Rattle.clap.specs.declared.builder.command.Command.{Command}
use Rattle.clap.specs.Words.{App, app_of, new_app}
use Rattle.gr_arguments.specs.Commands.{alone}
use Rattle.gr_arguments.specs.Pages.{with_commands}
use Rattle.gr_arguments.specs.declared.command.Page.{Page}
use Rattle.gr_arguments.proofs.command.command.Goals as goal

-- the pages whose commands were added
abbrev pages_of : {E : Type 0} (r : Result Command E) (a : App) (pages : List Page) → IfOk r (λ command. app_of command ≡ with_commands a pages) → List Page
pages_of r a pages added = pages

abbrev pages_in : goal.After-with_pages → List Page
pages_in c = pages_of _ _ _ c.with_pages.ensures

pub returns : goal.returns
unfolding with_commands
returns c =
    let named : app_of c.in_ok-bin_name.field-0 ≡ new_app (codes "gpurace") = rw c.in_ok-bin_name.ensures.0 c.new.ensures.app in
    let above_is : app_of c.after_help-command.result ≡ record { top = alone; subs = [] } = rw (c.after_help-command.ensures, c.long_about.ensures, c.about.ensures, c.override_usage.ensures, c.version.ensures, c.no_binary_name.ensures) (ap (λ (a : App). record { top = record a.top { no_binary_name = true; has_version = true }; subs = a.subs }) named) in
    let pages = pages_in c in
    IfOk-weaker c.with_pages.result _ _ (λ command added. added ∙ ap (λ (a : App). with_commands a pages) above_is) c.with_pages.ensures
