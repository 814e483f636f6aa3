use Rattle.gr_model.proofs.Common.{rules}
use Rattle.gr_shadow.proofs.KeepsLemmas.{Keeps-at}
use Rattle.gr_shadow.proofs.touch.keep_among.Goals as goal

pub returns-in-Some-get_mut-clause-kept : goal.returns-in-Some-get_mut-clause-kept
returns-in-Some-get_mut-clause-kept c took =
    Keeps-at c.args.touches.now.items c.in-Some.place c.in-Some-get_mut.kept.now c.takes.new.self c.args.touch.now (search rules) (search rules) (c.takes.ensures.kept took)
