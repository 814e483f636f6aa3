use Rattle.gr_route.proofs.IntakeSteps.{intake}
use Rattle.gr_route.proofs.Steps.{seat_tells, taker_tells}
use Rattle.gr_route.proofs.laws.intake_seats_tell.Goals as goal

pub returns-clause-seat : goal.returns-clause-seat
returns-clause-seat c = λ s items a. let told = seat_tells intake s.group s.items s.pushed items a in record { mine = told.0; streams = told.1 }

pub returns-clause-taker : goal.returns-clause-taker
returns-clause-taker c = λ t items a. taker_tells intake t.popped items t.sizes t.joined a
