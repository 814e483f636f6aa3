use Rattle.gr_model.proofs.Common.{◌≡◌, ◌++◌, drop, map}
use Rattle.gr_races.specs.Runs.{runs_after, runs_of}
use Rattle.gr_races.proofs.runs.runs_of.Given as goal

abbrev pub invariant-loop-race : goal.invariant-loop-race
invariant-loop-race g l = runs_of (map (λ r. r.word) l.races) ≡ l.runs.items ++ runs_after l.run (map (λ r. r.word) (drop l.race-index l.rest))
