-- What a sequencer has taken, and what stands for the accesses that it answers.
use Rattle.gr_model.proofs.Common.{[], ◌≡◌, ℕ, zero, suc, List, ◌∷◌, map, get_or, refl}
use Rattle.gr_model.specs.declared.event.Event.{Event}
use Rattle.gr_model.specs.Prelude.{Grows, Streams}
use Rattle.gr_lanes.specs.Takes.{CanTake, with_record}
use Rattle.gr_lanes.proofs.Growth.{record_grows}
use Rattle.gr_order.specs.Sequences.{IsDone, IsSequence, Sequence, taking}
use Rattle.gr_steps.proofs.StepGrowth.{lawful_grows}
use Rattle.gr_closure.proofs.Growing.{accesses_stay}
use Rattle.gr_clocks.specs.ClockedAccess.{ClockedAccess}
use Rattle.gr_taking.specs.Along.{IsAlong, IsAlongSome, IsAlongWhole}

-- the accesses along the order stay so where a record is taken
pub along_stays : {X : Type 0} (stands : List ClockedAccess → X → Type 0) (q new : Sequence) (g : ℕ) (x : Event) (v : X) → IsSequence q → CanTake q.taken g x → new ≡ taking q g x → IsAlong stands q v → IsAlong stands new v
along_stays stands q new g x v sequence can is along =
    rw is (along.0, accesses_stay q.taken (with_record q.taken g x) (record_grows q.taken g x sequence.prefixes can) q.handled along.0 sequence.lawful along.1, along.2)

-- ---- nothing was taken

abbrev no_records : List Event
no_records = []

pub empty_at : (sizes : List ℕ) (g : ℕ) → get_or (map (λ n. no_records) sizes) g no_records ≡ no_records
empty_at [] i = refl
empty_at (x ∷ xs) zero = refl
empty_at (x ∷ xs) (suc i) = empty_at xs i

-- ---- all was taken

-- where no step is left, the handled events are a lawful order of all grounded ones
pub whole_at_end : {X : Type 0} (stands : List ClockedAccess → X → Type 0) (s : Streams) (q : Sequence) (v : X) → q.taken ≡ s → IsDone q → IsSequence q → IsAlong stands q v → IsAlongWhole stands s v
whole_at_end stands s q v taken done sequence along = rw (← taken) (record {
  order = q.handled;
  whole = record { lawful = sequence.lawful; whole = λ e. (done.grounded e).1 };
  accesses = along.0;
  are = along.1;
  stands = along.2;
})

-- and before, a lawful order of some of them, where what was taken grows
pub some_along : {X : Type 0} (stands : List ClockedAccess → X → Type 0) (s : Streams) (q : Sequence) (v : X) → Grows q.taken s → IsSequence q → IsAlong stands q v → IsAlongSome stands s v
some_along stands s q v grows sequence along = record {
  order = q.handled;
  lawful = lawful_grows q.taken s grows q.handled sequence.lawful;
  accesses = along.0;
  are = accesses_stay q.taken s grows q.handled along.0 sequence.lawful along.1;
  stands = along.2;
}
