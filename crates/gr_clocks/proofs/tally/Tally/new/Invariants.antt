use Rattle.gr_model.proofs.Common.{◌≡◌, ℕ, ◌<◌, length, get_or, [], replicate, slice_index}
use Rattle.gr_clocks.proofs.tally.Tally.new.Given as goal

abbrev pub invariant-loop-group : goal.invariant-loop-group
invariant-loop-group g l = record { count : length l.rows.items ≡ l.group; zero : (p : ℕ) → p < l.group → get_or l.rows.items p [] ≡ replicate (slice_index l.shape p) 0 }
