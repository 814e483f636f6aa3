use Rattle.gr_route.proofs.intake.seat_for.Goals as goal

pub another-requires-clause-rule : goal.another-requires-clause-rule
another-requires-clause-rule g c = rw (c.requires.named.0, c.requires.named.1) c.requires.rule
