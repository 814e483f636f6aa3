use Rattle.gr_clocks.specs.Groups.{MergesFirst}
use Rattle.gr_clocks.proofs.group.Group.merged.Given as goal

abbrev pub invariant-loop-item : goal.invariant-loop-item
invariant-loop-item g l = MergesFirst l.self-inside.met.value (record { number = l.self-inside.number; clocks = l.self-inside.clocks.items }) l.item l.base
