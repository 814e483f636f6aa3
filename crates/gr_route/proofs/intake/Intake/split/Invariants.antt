use Rattle.gr_route.proofs.intake.Intake.split.Given as goal

abbrev pub ghosts-seat_for : goal.ghosts-seat_for
ghosts-seat_for g a = record { group = a.group; items = a.items }
