use Rattle.gr_races.proofs.KindLemmas.{race_said}
use Rattle.gr_command.proofs.questions.RacesQuestion.found.Goals as goal

pub returns : goal.returns
returns g c = λ said launch are. let listed = are.listed in race_said launch listed.racy c.args.found.now.races listed.words listed.counted
