use Rattle.gr_places.specs.SideLines.{place_number}
use Rattle.gr_races.proofs.KindLemmas.{account_racy}
use Rattle.gr_command.proofs.questions.LongRaceQuestion.found.Goals as goal

pub returns : goal.returns
returns g c = λ said launch exact. rw c.is_some.ensures (account_racy launch (place_number said.places) c.args.self.now.0 c.args.answer.now.0 exact.0)
