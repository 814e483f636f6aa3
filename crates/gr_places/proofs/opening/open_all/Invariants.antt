use Rattle.gr_model.proofs.Common.{map, take}
use Rattle.std.specs.Fn.{FnReturnsAt}
use Rattle.gr_places.specs.Files.{AreOpened}
use Rattle.gr_places.proofs.opening.open_all.Given as goal

abbrev pub invariant-loop-name : goal.invariant-loop-name
invariant-loop-name g l = AreOpened (FnReturnsAt g.O.Fn l.opener) (map (λ s. s.now) (take l.name-index l.names)) l.files.items
