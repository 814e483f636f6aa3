-- What came to an instance of a group's barriers, by the barrier of one who came.
use Rattle.std.specs.Prelude.{◌≡◌, ℕ, ◌<◌, true, is_some}
use Rattle.gr_model.specs.declared.event.Event.{Event}
use Rattle.gr_model.specs.Prelude.{arrivals, mark_of, Streams, size_of}

-- somebody came with the mark of this barrier
pub record HasCome (s : Streams) (g k : ℕ) (x : Event) : Type 0 where
  pub item : ℕ
  pub within : item < size_of s g
  pub barrier : is_some (mark_of x) ≡ true
  pub came : arrivals s g k item ≡ mark_of x
