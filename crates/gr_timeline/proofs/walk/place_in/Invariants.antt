use Rattle.gr_model.proofs.Common.{◌≡◌, ◌<◌, ℕ, Some}
use Rattle.gr_timeline.specs.Chains.{event_of}
use Rattle.gr_timeline.proofs.walk.place_in.Given as goal

abbrev pub invariant-loop-place : goal.invariant-loop-place
invariant-loop-place l = (k : ℕ) → k < l.place → event_of l.links k ≡ Some l.event → ⊥
