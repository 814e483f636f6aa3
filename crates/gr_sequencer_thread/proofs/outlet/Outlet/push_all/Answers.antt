use Rattle.gr_model.proofs.Common.{◌++◌, ap, ◌∙◌}
use Rattle.gr_route.specs.WorkRule.{is_stopped}
use Rattle.gr_route.specs.WorkSeats.{Giver}
use Rattle.gr_sequencer_thread.proofs.WayLemmas.{both_unstopped, stops_last}
use Rattle.gr_sequencer_thread.proofs.outlet.Outlet.push_all.Goals as goal

pub push_all-requires-clause-stops : goal.push_all-requires-clause-stops
push_all-requires-clause-stops g c =
    let pushed = c.self.inside.seat.pushed in
    stops_last (pushed ++ c.args.batch) (both_unstopped pushed c.args.batch (ap (λ (u : Giver g.row.A.Denot). is_stopped u.pushed) c.self.view_is ∙ c.requires.«open») c.requires.accesses)
