use Rattle.gr_model.proofs.Common.{◌≡◌, ℕ, [], get_or, length, map}
use Rattle.gr_explain.proofs.records.Index.new.Given as goal

abbrev pub invariant-loop : goal.invariant-loop
invariant-loop g l = record { count : length l.places.items ≡ l.counter; none : (i : ℕ) → get_or (map (λ v. v.items) l.places.items) i [] ≡ [] }
