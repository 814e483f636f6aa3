use Rattle.gr_model.proofs.Common.{◌≡◌, length, arith, ap, rules, length-map}
use Rattle.gr_sequencer_thread.specs.Ends.{Line}
use Rattle.gr_sequencer_thread.specs.Feeds.{Feed}
use Rattle.gr_sequencer_thread.proofs.feed.Feed.drain_all.Goals as goal

pub drain-some-requires : goal.drain-some-requires
drain-some-requires g c =
    let len : c.len-queue-end.result ≡ length c.self.inside.inlets.items = search rules in
    let view = ap (λ (f : Feed g.row.A.Denot). length f.takers) c.self.view_is in
    let same = simp length-map at (ap (λ (r : Line). length r.intakes) c.loop-queue.invariant) in
    omega (arith, c.loop-queue-test.true, len, view, same)
