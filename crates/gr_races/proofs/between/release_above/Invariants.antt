use Rattle.gr_model.proofs.Common.{◌≡◌, ◌≤◌, drop, filter, find, nat_lt}
use Rattle.gr_model.specs.Prelude.{is_release, is_of, places_from}
use Rattle.gr_races.proofs.between.release_above.Given as goal

abbrev pub invariant-loop-event : goal.invariant-loop-event
invariant-loop-event l = record {
  few : l.at ≤ l.event-index;
  same : find (nat_lt l.index) (places_from is_release 0 (filter (is_of l.item) l.list)) ≡ find (nat_lt l.index) (places_from is_release l.at (filter (is_of l.item) (drop l.event-index l.list)));
}
