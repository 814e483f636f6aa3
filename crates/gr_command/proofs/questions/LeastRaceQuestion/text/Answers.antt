use Rattle.gr_model.proofs.Common.{IfOk-weaker}
use Rattle.gr_command.proofs.questions.LeastRaceQuestion.text.Goals as goal

pub returns : goal.returns
returns g c = IfOk-weaker c.race_text.result _ _ (λ text is launch least. record { pair = c.args.pair.now; least = least; is = is }) c.race_text.ensures
