use Rattle.gr_model.proofs.Common.{◌≡◌, ◌↔◌, IsTrue, Any, rules}
use Rattle.gr_clocks.specs.declared.clock.TheConstants.{LARGEST_COUNT}
use Rattle.gr_clocks.specs.Counts.{count_of}
use Rattle.gr_clocks.proofs.ReleaseLemmas.{all_have_room, some_spent}
use Rattle.gr_clocks.proofs.clocks.are_spent.Given as given
use Rattle.gr_clocks.proofs.clocks.are_spent.Goals as goal

some : (g : given.Over) (c : goal.After-any g) → IsTrue c.any.result ↔ Any (λ s. count_of s.now.clock c.args.item ≡ LARGEST_COUNT) c.args.snapshots.now
some g c = search rules

pub returns-clause-spent : goal.returns-clause-spent
returns-clause-spent g c =
    let left = some_spent (λ s. s.now) c.args.snapshots.now c.args.item in
    (λ yes. left.0 ((some g c).0 yes), λ spent. (some g c).1 (left.1 spent))

pub returns-clause-room : goal.returns-clause-room
returns-clause-room g c none = all_have_room (λ s. s.now) c.args.snapshots.now c.args.item (λ any. cc ((some g c).1 any))
