use Rattle.gr_command.proofs.ShownLemmas.{race_said}
use Rattle.gr_command.proofs.questions.LeastRaceQuestion.found.Goals as goal

pub returns : goal.returns
returns g c = λ said launch least. rw c.is_some.ensures (race_said launch c.args.self.now.0 c.args.pair.now least)
