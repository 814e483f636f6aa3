use Rattle.gr_model.proofs.Common.{◌≡◌, map, take}
use Rattle.gr_replay.proofs.launch.lists_of.Given as goal

abbrev pub invariant-loop-stream : goal.invariant-loop-stream
invariant-loop-stream g l = map (λ v. v.items) l.lists.items ≡ map (λ s. s.events) (take l.stream-index l.streams)
