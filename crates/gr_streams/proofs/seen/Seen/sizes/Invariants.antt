use Rattle.gr_model.proofs.Common.{◌≡◌, take}
use Rattle.gr_intake.proofs.Judged.{AreSomeBelow}
use Rattle.gr_streams.proofs.seen.Seen.sizes.Given as goal

-- the sizes of the groups so far, none of which is missing
abbrev pub invariant-loop-group : goal.invariant-loop-group
invariant-loop-group g l = record { sizes : l.sizes.items ≡ take l.group l.self-inside.groups; some : AreSomeBelow l.self-inside.groups l.group }
