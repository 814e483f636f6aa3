-- What goes through a queue in one step, and what waits before the queue or is left after it.
-- Source: docs/QUEUES.md, "Batches".
use Rattle.std.specs.Prelude.{◌-◌, ℕ, List, [], ◌∷◌, ◌++◌, length, map, take, Option, None, Some, Vec}
use Rattle.gr_route.specs.Types.{Event, Sent}
use Rattle.gr_route.specs.declared.batch.Content.{Content}
use Rattle.gr_route.specs.declared.batch.Content.TheVariants.{One, Several}

-- the values that batches hold, one batch after another
abbrev pub all_of : {T : Type 0} → List (List T) → List T
all_of [] = []
all_of (b ∷ bs) = b ++ all_of bs

-- what was handed out of the values that were popped, if these are left
abbrev pub front : {T : Type 0} → List T → List T → List T
front popped rest = take (length popped - length rest) popped

-- events of a group, each with the group
abbrev pub sent_by : ℕ → List Event → List Sent
sent_by group events = map (λ e. record { group = group; event = e }) events

-- ---- what the types hold

abbrev pub values_in : {T A : Type 0} → Content T A → List T
values_in (One value) = value ∷ []
values_in (Several values) = values.items

abbrev pub values_waiting : {T A : Type 0} → Option (Vec T A) → List T
values_waiting None = []
values_waiting (Some values) = values.items
