use Rattle.gr_model.proofs.Common.{rules, IsNonDecreasingBy-from_sort_by_key, IsPermutation-map}
use Rattle.gr_replay.specs.InMemory.{flat, flats}
use Rattle.gr_replay.proofs.Launching.{apart_permutation, rising_from}
use Rattle.gr_replay.proofs.launch.order_by_group.Goals as goal

pub returns-clause-same : goal.returns-clause-same
returns-clause-same g c = IsPermutation-map flat _ _ c.sort_unstable_by_key.ensures.permutation

pub returns-clause-rising : goal.returns-clause-rising
returns-clause-rising g c =
    let new = c.sort_unstable_by_key.new.self.items in
    let up = IsNonDecreasingBy-from_sort_by_key (λ s. s.header.group) _ c.sort_unstable_by_key.ensures.sorted (λ a r q k. search rules) in
    rising_from flat new up (apart_permutation (flats c.args.streams.now.items) (flats new) (IsPermutation-map flat _ _ c.sort_unstable_by_key.ensures.permutation) c.requires)
