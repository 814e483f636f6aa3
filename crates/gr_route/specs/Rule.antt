-- What each seat of a queue knows, the rule that ties this to what the queue holds, and what a seat learns by a step.
-- A queue holds values of groups. `of` is what is of one group among them, and `May` what may be sent of a group with so many items.
-- Source: docs/QUEUES.md, "The rule".
use Rattle.std.specs.Prelude.{◌≡◌, ◌≢◌, ◌<◌, ℕ, true, false, List, [], ◌∷◌, ◌++◌, slice_index, slice_set}
use Rattle.std.specs.List.{All}
use mathlib.Core.Option as seat
use lib.ListN.{get_elem?}
use Rattle.crossbeam_queue.specs.Passes.{Pass, view}
use Rattle.gr_route.specs.Types.{Joined, SeatView}
use Rattle.gr_route.specs.Batches.{all_of, front}
use Rattle.gr_route.specs.Prefixes.{StartsWith}
use Rattle.gr_route.specs.Rooms.{AgreesWith}

module _ {E T : Type 0} where
  -- ---- the views

  -- the seat of a group with so many items, which has pushed these
  abbrev pub seat_of : ℕ → ℕ → List T → SeatView E T
  seat_of group items pushed = record { pushes = true; group = group; items = items; pushed = pushed; pops = false; popped = []; sizes = []; joined = [] }

  -- the seat that pops: what it popped, the items of each group that has had a seat (0 for the others), and the lists of the seats that were joined back
  abbrev pub taker_of : List E → List ℕ → List (Joined T) → SeatView E T
  taker_of popped sizes joined = record { pushes = false; group = 0; items = 0; pushed = []; pops = true; popped = popped; sizes = sizes; joined = joined }

  -- what a seat that was joined back leaves
  abbrev pub spent_view : SeatView E T
  spent_view = record { pushes = false; group = 0; items = 0; pushed = []; pops = false; popped = []; sizes = []; joined = [] }

  -- the view of the seat that pops, after the seat of a group was split off
  abbrev pub after_split : ℕ → ℕ → SeatView E T → SeatView E T
  after_split group items v = taker_of v.popped (slice_set v.sizes group items) v.joined

  abbrev pub joined_from : SeatView E T → Joined T
  joined_from w = record { group = w.group; items = w.items; pushed = w.pushed }

  -- the same, after a group's seat was joined back
  abbrev pub after_join : SeatView E T → SeatView E T → SeatView E T
  after_join v w = taker_of v.popped v.sizes (v.joined ++ joined_from w ∷ [])

-- ---- the rule

-- what is true of a queue: the pass of the seat that pops and what that popped, and of each group the pass of its seat, what was sent, and the number of items (0 if it has had no seat)
pub record Account (E T : Type 0) : Type 0 where
  pub taker : ℕ
  pub popped : List E
  pub holder : ℕ → seat.Option ℕ
  pub sent : ℕ → List T
  pub size : ℕ → ℕ

module _ {E T : Type 0} (a : Account E T) where
  -- a group has one seat at most, and it knows what was sent of the group
  abbrev pub FitsSeat : ℕ → SeatView E T → Type 0
  FitsSeat pass v = v.pushes ≡ true → (a.holder v.group ≡ seat.some pass) × (v.pushed ≡ a.sent v.group) × (v.items ≡ a.size v.group)

  -- a seat that was joined back pushed all that was sent of its group
  abbrev pub FitsJoined : Joined T → Type 0
  FitsJoined j = (a.holder j.group ≡ seat.none) × (j.pushed ≡ a.sent j.group) × (j.items ≡ a.size j.group) × (a.size j.group ≢ 0)

  -- there is one taker, and it knows what was popped, which groups have had a seat, and what the seats that were joined back pushed
  abbrev pub FitsTaker : ℕ → SeatView E T → Type 0
  FitsTaker pass v = v.pops ≡ true → (pass ≡ a.taker) × (v.popped ≡ a.popped) × ((g : ℕ) → slice_index v.sizes g ≡ a.size g) × All FitsJoined v.joined

-- of each group, what was popped, followed by what is queued, is what was sent, and that may be sent of it; nothing was sent of a group that has had no seat
pub record SeatsAgree {E T : Type 0} (of : ℕ → List E → List T) (May : ℕ → List T → Type 0) (items : List E) (views : List (SeatView E T)) : Type 0 where
  pub is : Account E T
  pub queued : (g : ℕ) → of g (is.popped ++ items) ≡ is.sent g
  pub prefixes : (g : ℕ) → May (is.size g) (is.sent g)
  pub unseated : (g : ℕ) → is.size g ≡ 0 → (is.holder g ≡ seat.none) × (is.sent g ≡ [])
  pub fits : (pass : ℕ) (v : SeatView E T) → get_elem? views pass ≡ seat.some v → FitsSeat is pass v × FitsTaker is pass v

-- the same of what the queue holds, one batch after another
abbrev pub BatchesAgree : {E T : Type 0} → (List E → List (SeatView E T) → Type 0) → List (List E) → List (SeatView E T) → Type 0
BatchesAgree holds batches views = holds (all_of batches) views

-- ---- what a seat learns by a step

-- a push adds to what the seat pushed
abbrev pub Pushes : {E T : Type 0} → (ℕ → List E → List T) → SeatView E T → List E → SeatView E T → Type 0
Pushes of v batch w = w ≡ seat_of v.group v.items (v.pushed ++ of v.group batch)

-- a pop adds to what the taker popped, and what the queue then holds agrees with that
abbrev pub Pops : {E T : Type 0} → (List E → List (SeatView E T) → Type 0) → SeatView E T → List E → SeatView E T → Type 0
Pops {E} holds v batch w = (w ≡ taker_of (v.popped ++ batch) v.sizes v.joined) × ((items : List E) × AgreesWith holds w items)

abbrev pub PassOf : Type 0 → Type 0 → Type 0
PassOf E T = Pass (List E) (SeatView E T)

-- ---- what the seats keep: every place of the queue that was taken was given back, and the pass knows what the fields say

pub record IsSeatPass {E T : Type 0} (pass : PassOf E T) (group items : ℕ) : Type 0 where
  pub idle : pass.me.1 ≡ []
  pub known : view pass ≡ seat_of group items (view pass).pushed
  pub some : 0 < items

module _ {E T : Type 0} (of : ℕ → List E → List T) (May : ℕ → List T → Type 0) where
  -- the same, and this is left of the batch that was popped last
  pub record IsTakerPass (pass : PassOf E T) (sizes : List ℕ) (rest : List E) : Type 0 where
    pub idle : pass.me.1 ≡ []
    pub known : view pass ≡ taker_of (view pass).popped sizes (view pass).joined
    pub left : (view pass).popped ≡ front (view pass).popped rest ++ rest
    pub agrees : (items : List E) × AgreesWith (SeatsAgree of May) (view pass) items

  -- ---- what the seat that pops knows of what it popped

  -- a seat that was joined back had the items that its group has, at least one; what it pushed may be sent of the group, and begins with what was popped of it
  pub record IsDelivered (popped : List E) (sizes : List ℕ) (j : Joined T) : Type 0 where
    pub items : j.items ≡ slice_index sizes j.group
    pub some : j.items ≢ 0
    pub stream : May j.items j.pushed
    pub prefix : StartsWith j.pushed (of j.group popped)

  -- what was popped of a group may be sent of it, and nothing was popped of a group that has had no seat
  pub record IsDelivery (popped : List E) (sizes : List ℕ) (back : List (Joined T)) : Type 0 where
    pub streams : (g : ℕ) → May (slice_index sizes g) (of g popped)
    pub unseated : (g : ℕ) → slice_index sizes g ≡ 0 → of g popped ≡ []
    pub joined : All (IsDelivered popped sizes) back

  -- the same of all that was pushed: it is all that the seats pushed which were joined back
  pub record IsWhole (all : List E) (sizes : List ℕ) (back : List (Joined T)) : Type 0 where
    pub streams : (g : ℕ) → May (slice_index sizes g) (of g all)
    pub unseated : (g : ℕ) → slice_index sizes g ≡ 0 → of g all ≡ []
    pub joined : All (λ j. (j.pushed ≡ of j.group all) × (j.items ≡ slice_index sizes j.group) × (j.items ≢ 0)) back
