use Rattle.gr_model.proofs.Common.{◌≡◌, inl, inr, refl, true}
use Rattle.gr_command.proofs.status.status_of_report.Goals as goal

pub returns-then-found : goal.returns-then-found
returns-then-found g c = inl (refl, c.found.ensures.0 c.if-found.true)

pub returns-else-found : goal.returns-else-found
returns-else-found g c =
    inr (refl, λ finding. let yes : c.found.result ≡ true = c.found.ensures.1 finding in absurd cc)
