use Rattle.gr_model.proofs.HitLaws.{IsHit-filter}
use Rattle.gr_shadow.specs.Clashes.{clashes}
use Rattle.gr_shadow.proofs.laws.hits_are_of_their_words.Goals as goal

pub returns : goal.returns
returns c keep accesses w kept = IsHit-filter (λ x. x.word) clashes keep accesses w kept
