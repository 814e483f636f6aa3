use Rattle.gr_timeline.proofs.why.why_held.Goals as goal

pub returns : goal.returns
returns g c = rw c.in_ok-judged.ensures at c.why_in.ensures
