-- What follows for every world: the contract of a function that does nothing.
use Rattle.std.specs.Prelude.{ℕ, ◌<◌}
use Rattle.gr_model.specs.declared.event.Word.{Word}
use Rattle.gr_model.specs.Prelude.{IsRacy, Grows, Streams, IsGrounded}
use Rattle.gr_shadow.specs.Clashes.{IsHitIn}
use Rattle.gr_world.specs.Worlds.{IsWorld, World, work_at}

-- a word that is hit in what a worker received is racy among the grounded events, however the lists that were taken grow
abbrev pub ReceivedHitsStay : Type 0
ReceivedHitsStay = (w : World) (t : Streams) (k : ℕ) (v : Word) → IsWorld w → Grows w.sequence.taken t → k < w.config.workers → IsHitIn (work_at w k).received v → IsRacy t (IsGrounded t) v
