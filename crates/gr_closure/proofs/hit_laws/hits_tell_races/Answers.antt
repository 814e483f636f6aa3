use Rattle.gr_closure.proofs.Clashing.{hits_are_clashes, lawful_hits_are_races, whole_hits_are_races}
use Rattle.gr_closure.proofs.hit_laws.hits_tell_races.Goals as goal

pub returns : goal.returns
returns c = record {
  clashes = λ s order accesses w are. hits_are_clashes s w order accesses are;
  lawful = lawful_hits_are_races;
  whole = whole_hits_are_races;
}
