use Rattle.gr_shadow.proofs.launch.LaunchShadows.apply.Goals as goal

pub returns-clause-word : goal.returns-clause-word
returns-clause-word g c accesses stands = rw c.lend.ensures at (c.apply_lent.ensures.word accesses stands)
