use Rattle.gr_model.proofs.Common.{◌≡◌, drop, slice_get}
use Rattle.gr_model.specs.Prelude.{is_of, places_from}
use Rattle.gr_timeline.proofs.details.record_number.Given as goal

abbrev pub invariant-loop-place : goal.invariant-loop-place
invariant-loop-place l = slice_get (places_from (is_of l.item) 0 l.list) l.index ≡ slice_get (places_from (is_of l.item) l.place (drop l.place l.list)) l.before
