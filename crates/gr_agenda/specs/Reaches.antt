-- Which steps may become ready when a record is taken.
-- Source: docs/MODEL.md, "Barriers": a barrier changes its own instance alone, and an instance is divergent where two that came differ.
use Rattle.std.specs.Prelude.{◌≡◌, ℕ, true, false, filter, length, ⊤}
use Rattle.gr_model.specs.declared.event.Event.{Event}
use Rattle.gr_model.specs.Prelude.{arrivals, is_barrier, mark_of, is_end, Streams, trace_of}
use Rattle.gr_agenda.specs.declared.reach.Reach.{Reach}
use Rattle.gr_agenda.specs.declared.reach.Reach.TheVariants.{Item, Instance, Mark, Group}

-- the number of the instance of an item's next barrier
abbrev pub next_instance : Streams → ℕ → ℕ → ℕ
next_instance s g i = length (filter is_barrier (trace_of s (record { group = g; item = i })))

-- a barrier to whose instance another item of the group came with the same mark
pub record IsFollowing (s : Streams) (g : ℕ) (x : Event) : Type 0 where
  pub barrier : is_barrier x ≡ true
  pub other : ℕ
  pub came : arrivals s g (next_instance s g x.item) other ≡ mark_of x

-- which steps may become ready when a record of a group is taken: those of its item; for a barrier, those of its instance, whose mark is
-- there already (Instance) or may be new (Mark); or those of the whole group
abbrev pub IsReach : Streams → ℕ → Event → Reach → Type 0
IsReach s g x Item = (is_barrier x ≡ false) × (is_end x ≡ false)
IsReach s g x (Instance k) = IsFollowing s g x × (k ≡ next_instance s g x.item)
IsReach s g x (Mark k) = (is_barrier x ≡ true) × (k ≡ next_instance s g x.item)
IsReach s g x Group = ⊤
