use Rattle.gr_model.proofs.Common.{rules}
use Rattle.gr_shadow.proofs.KeepsLemmas.{Keeps-one, Keeps-other}
use Rattle.gr_shadow.proofs.touch.Touch.takes.Goals as goal

pub returns-then-self-other-clause-kept : goal.returns-then-self-other-clause-kept
returns-then-self-other-clause-kept c _ = Keeps-other c.args.other.now c.args.self.now (record { item = search rules; class = search rules; index = search rules })

pub returns-else-self-other-clause-kept : goal.returns-else-self-other-clause-kept
returns-else-self-other-clause-kept c _ = Keeps-one c.args.self.now c.args.other.now (record { item = search rules; class = search rules; index = search rules })
