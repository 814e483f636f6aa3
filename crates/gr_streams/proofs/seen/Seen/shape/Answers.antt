use Rattle.gr_model.proofs.Common.{◌∙◌, List, ℕ, subst, sym}
use Rattle.gr_model.specs.Prelude.{IsShapeFault}
use Rattle.gr_streams.proofs.seen.Seen.shape.Goals as goal

pub returns-in-Ok-clause-launch : goal.returns-in-Ok-clause-launch
returns-in-Ok-clause-launch g c = let launch = c.in_ok-sizes.ensures.launch in (launch.0, launch.1, launch.2 ∙ sym c.in-Ok.ensures.sizes)

pub returns-in-Err-clause-fault : goal.returns-in-Err-clause-fault
returns-in-Err-clause-fault g c =
    let launch = c.in_ok-sizes.ensures.launch in
    (launch.0, launch.1, subst (λ (l : List ℕ). IsShapeFault l c.in-Err.error) (sym launch.2) c.in-Err.ensures.refused)
