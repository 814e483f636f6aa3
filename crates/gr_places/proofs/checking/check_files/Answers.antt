use Rattle.gr_model.proofs.Common.{◌≡◌, refl, IfOk-weaker}
use Rattle.gr_replay.specs.Each.{inputs_of}
use Rattle.gr_replay.proofs.Apart.{at_all_known}
use Rattle.gr_places.proofs.checking.check_files.Goals as goal

pub returns-clause-checked : goal.returns-clause-checked
returns-clause-checked g c =
    let inputs = inputs_of c.in_ok-inputs.inputs.items in
    IfOk-weaker c.check.result _ _
    (λ answer checked. (
      c.in_ok-files.files.items,
      c.in_ok-files.ensures.opened,
      record {
        inputs = inputs;
        read = at_all_known _ inputs (λ bytes. inputs ≡ bytes) c.in_ok-inputs.ensures.bytes refl;
        exact = rw c.as_slice.ensures.value at checked;
      },
    ))
    c.check.ensures.checked
