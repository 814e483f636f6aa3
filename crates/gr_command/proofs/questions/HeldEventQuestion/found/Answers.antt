use Rattle.gr_timeline.specs.Why.{answer_of}
use Rattle.gr_timeline.proofs.WhyLemmas.{why_said}
use Rattle.gr_command.proofs.questions.HeldEventQuestion.found.Goals as goal

pub returns : goal.returns
returns g c = λ said launch exact. rw c.is_held.ensures (why_said launch c.args.self.now.0 (answer_of c.args.why.now) exact)
