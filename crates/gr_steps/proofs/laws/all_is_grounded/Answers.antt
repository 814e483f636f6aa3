use Rattle.gr_model.proofs.Descent.{stage_up}
use Rattle.gr_steps.proofs.AllGrounded.{all_is_grounded}
use Rattle.gr_steps.proofs.Reached.{grounded_dec}
use Rattle.gr_steps.proofs.Unmatched.{none_unmatched}
use Rattle.gr_steps.proofs.laws.all_is_grounded.Goals as goal

pub returns : goal.returns
returns c = record {
  decided = λ s e complete. grounded_dec s complete e;
  reported = none_unmatched;
  all = λ s e complete matched there. all_is_grounded s complete matched e there;
  races = λ s w complete matched. (
    λ h. (h.0, h.1, (stage_up s h.2.0 h.0 h.2.1).0, (stage_up s h.3.0 h.1 h.3.1).0, h.4),
    λ h. (h.0, h.1, all_is_grounded s complete matched h.0 h.2, all_is_grounded s complete matched h.1 h.3, h.4),
  );
}
