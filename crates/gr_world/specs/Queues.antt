-- Bounded queues, what a worker has, and what it receives.
-- Source: docs/MODEL.md, "The world".
use Rattle.std.specs.Prelude.{◌≡◌, ℕ, ◌<◌, Bool, true, false, List, [], ◌∷◌, ◌++◌, length, map}
use Rattle.gr_clocks.specs.declared.access.Access.{Access}
use Rattle.gr_shadow.specs.Clashes.{ClockedAccess, clocked}

-- a queue: the number of its places, and the values that it holds, the front first
pub record Bounded (T : Type 0) : Type 0 where
  pub places : ℕ
  pub items : List T

abbrev pub empty_queue : {T : Type 0} → ℕ → Bounded T
empty_queue places = record { places = places; items = [] }

abbrev pub HasRoom : {T : Type 0} → Bounded T → Type 0
HasRoom q = length q.items < q.places

abbrev pub pushed : {T : Type 0} → Bounded T → T → Bounded T
pushed q x = record { places = q.places; items = q.items ++ x ∷ [] }

-- the same queue without its front
abbrev pub leaving : {T : Type 0} → Bounded T → List T → Bounded T
leaving q rest = record { places = q.places; items = rest }

-- what a worker has: the accesses in its queue, and those that it received, in order
pub record Work : Type 0 where
  pub queue : Bounded ClockedAccess
  pub received : List ClockedAccess

abbrev pub no_work : ℕ → Work
no_work places = record { queue = empty_queue places; received = [] }

-- one more access is queued
abbrev pub queueing : Work → ClockedAccess → Work
queueing k x = record { queue = pushed k.queue x; received = k.received }

-- the access at the front is received
abbrev pub receiving : Work → ClockedAccess → List ClockedAccess → Work
receiving k x rest = record { queue = leaving k.queue rest; received = k.received ++ x ∷ [] }

-- the access at the front was received, or there was none
abbrev pub Receives : Work → Bool → Work → Type 0
Receives old false new = (old.queue.items ≡ []) × (new ≡ old)
Receives old true new = (x : ClockedAccess) × (rest : List ClockedAccess) × (old.queue.items ≡ x ∷ rest) × (new ≡ receiving old x rest)

-- accesses without their allocators
abbrev pub all_clocked : {Z : Type 0} → List (Access Z) → List ClockedAccess
all_clocked accesses = map clocked accesses

-- what a worker with this queue has that received these
abbrev pub work_of : {Z : Type 0} → Bounded (Access Z) → List (Access Z) → Work
work_of queue received = record { queue = record { places = queue.places; items = all_clocked queue.items }; received = all_clocked received }
